-- A turn keeps validity: the threads beside the acting one, the acting one, a new one, the stores, and so whole runs.
use Rattle.std.proofs.Common.{◌≡◌, ℕ, zero, suc, ◌+◌, ◌≤◌, ◌⊎◌, inl, inr, true, List, [], ◌∷◌, ◌++◌, Option, Some, None, length, refl, sym, ap, subst, ◌∙◌, arith, length-append}
use Rattle.std.specs.Prelude.{is_none, not, slice_get, slice_set}
use Rattle.std.specs.List.{AllByRecursion}
use Rattle.lam_value.specs.declared.names.Name.{Name}
use Rattle.lam_value.specs.declared.values.Value.{Value}
use Rattle.lam_value.specs.declared.values.Value.TheVariants.{Obj, File, Dir, Pipe, Thread}
use Rattle.lam_value.specs.Shapes.{slots_of}
use Rattle.capabilities.specs.declared.Caps.{Caps}
use Rattle.monitor_core.specs.Held.{takings}
use Rattle.lam_asks.specs.declared.answer.Outcome.{Outcome}
use Rattle.lam_asks.specs.declared.answer.Outcome.TheVariants as outcome
use Rattle.lam_asks.specs.declared.answer.Answer.{Answer}
use Rattle.lam_asks.specs.declared.answer.Answer.TheVariants.{Val}
use Rattle.lam_asks.specs.declared.ask.Ask.{Ask}
use Rattle.lam_asks.specs.declared.ask.Ask.TheVariants as ask
use Rattle.lam_bytecode.specs.Codes.{CodeTree}
use Rattle.thread_steps.specs.Threads.{Frame, Inside, Context}
use Rattle.thread_steps.specs.Threads as threads
use Rattle.thread_steps.specs.Next.{Next, goes, asks, stuck, next_of, with_inside, takes, started}
use Rattle.lam_machine_laws.specs.Worlds.{World, thread_at, with_thread}
use Rattle.lam_machine_laws.specs.Serves.{Effect, nothing, takes_monitor, gives_back, drops, adds_thread, effect_of, Served, under, unless}
use Rattle.lam_machine_laws.specs.Serving.{serve}
use Rattle.lam_machine_laws.specs.Turns.{may_ask, waits, is_ready, Moment, goes_on, served, turn_by, step, and_then, moments, left_by}
use Rattle.lam_machine_laws.specs.Valid.{AreKnown, AllLive, OutcomeLives, FrameLives, ContextLives, AreStacked, has_contexts, all_listings, StoresLive, IsValidThread, IsValid}
use Rattle.lam_machine_laws.proofs.FlowLemmas.{both_true}
use Rattle.lam_machine_laws.proofs.ThreadLemmas.{some_inj, length-set, front, answered_front}
use Rattle.lam_machine_laws.proofs.RowLemmas.{served_proper}
use Rattle.lam_machine_laws.proofs.TurnLemmas.{acts, only}
use Rattle.lam_machine_valid.proofs.NextLemmas.{AskIs, NextIs, next_is}
use Rattle.lam_machine_laws.specs.Sound.{IsSoundWorld, FindsLiving}
use Rattle.lam_machine_laws.proofs.SoundSteps.{stay_sound}
use Rattle.lam_machine_valid.specs.Living.{InsideLives, AskLives, NextLives}
use Rattle.lam_machine_valid.proofs.TagLemmas.{public_known}
use Rattle.lam_machine_valid.proofs.GrowLemmas.{Grows, known_on, below_on, lives_on, effect_grows, thread_grows, same_stores, with_list}
use Rattle.lam_machine_valid.proofs.PrivateLemmas.{entered_live, name_what_lives, copies_living}
use Rattle.lam_machine_valid.specs.Steps.{StaysValid, RunsStayValid}
use Rattle.lam_machine_valid.proofs.HoldLemmas.{hold, touched, touched_other, IsPlaced, HoldsAll, placed, holds_all, takings_all, lived}
use Rattle.lam_machine_valid.proofs.StoreLemmas.{all_on, all_append, all_lives_on, moved_live, EffectLives, effect_on, effect_live}
use Rattle.lam_machine_valid.proofs.RowLemmas.{AnswerLives, live_row, holds_row, free_row}
use Rattle.lam_machine_valid.proofs.StackLemmas.{moved_placed, front_placed, instead, FitsPhase, EndsDone, answered_stacked, answered_ended, result_lives}

-- ---- what lives in a greater world

grows_on : (w v u : World) → Grows w v → Grows v u → Grows w u
grows_on w v u g k =
    let a = g.tags in
    let b = k.tags in
    let c = g.threads in
    let d = k.threads in
    record {
      tags = omega arith;
      heap = λ n h. let x = g.heap n h in let y = k.heap n x.0 in (y.0, y.1 ∙ x.1);
      files = λ n h. k.files n (g.files n h);
      dirs = λ n h. k.dirs n (g.dirs n h);
      pipes = λ n h. k.pipes n (g.pipes n h);
      threads = omega arith;
    }

module _ (w u : World) (g : Grows w u) where
  caps_on : (c : Caps) → AreKnown w c → AreKnown u c
  caps_on c h = (below_on w u g c.plus h.0, below_on w u g c.minus h.1)

  outcome_on : (o : Option Outcome) → OutcomeLives w o → OutcomeLives u o
  outcome_on None h = tt
  outcome_on (Some (outcome.Value v)) h = lives_on w u g v h
  outcome_on (Some (outcome.Failed f)) h = tt

  answer_on : (x : Answer) → AnswerLives w x → AnswerLives u x
  answer_on (Val v) h = lives_on w u g v h
  answer_on x h = tt

  frame_on : (f : Frame) → FrameLives w f → FrameLives u f
  frame_on f h = record { locals = all_lives_on w u g f.locals h.locals; stack = all_lives_on w u g f.stack h.stack }

  inside_on : (i : Inside) → InsideLives w i → InsideLives u i
  inside_on i h = record { frame = frame_on i.frame h.frame; callers = all_on frame_on i.callers h.callers }

  placed_on : (c : Context) → IsPlaced w c → IsPlaced u c
  placed_on c h =
      record {
        label = known_on w u g c.label h.label;
        caps = caps_on c.caps h.caps;
        inside = inside_on c.inside h.inside;
        held = all_on (λ n l. (lives_on w u g (Obj n) l.0, l.1)) c.held h.held;
      }

  ask_on : (a : Ask) → AskLives w a → AskLives u a
  ask_on (ask.Read r at) h = lives_on w u g r h
  ask_on (ask.Write r at v) h = (lives_on w u g r h.0, lives_on w u g v h.1)
  ask_on (ask.New shape) h = all_lives_on w u g (slots_of shape) h
  ask_on (ask.CopyTo r l) h = (lives_on w u g r h.0, known_on w u g l h.1)
  ask_on (ask.Enter l caps region args) h = (known_on w u g l h.0, (caps_on caps h.1.0, all_lives_on w u g args h.1.1))
  ask_on (ask.End r) h = outcome_on (Some r) h
  ask_on (ask.MonEnter r) h = lives_on w u g r h
  ask_on (ask.MonLeave r) h = lives_on w u g r h
  ask_on (ask.MakeFile d text l) h = (lives_on w u g (Dir d) h.0, known_on w u g l h.1)
  ask_on (ask.MakeDir d text l) h = (lives_on w u g (Dir d) h.0, known_on w u g l h.1)
  ask_on (ask.OpenFile d text) h = lives_on w u g (Dir d) h
  ask_on (ask.OpenDir d text) h = lives_on w u g (Dir d) h
  ask_on (ask.Remove d text) h = lives_on w u g (Dir d) h
  ask_on (ask.FileRead f at n) h = lives_on w u g (File f) h
  ask_on (ask.FileLength f) h = lives_on w u g (File f) h
  ask_on (ask.Append f bytes) h = lives_on w u g (File f) h
  ask_on (ask.Cut f len) h = lives_on w u g (File f) h
  ask_on (ask.MakePipe l) h = known_on w u g l h
  ask_on (ask.Send p bytes) h = lives_on w u g (Pipe p) h
  ask_on (ask.SendCaps p caps) h = (lives_on w u g (Pipe p) h.0, caps_on caps h.1)
  ask_on (ask.Receive p) h = lives_on w u g (Pipe p) h
  ask_on (ask.ReceiveCaps p) h = lives_on w u g (Pipe p) h
  ask_on (ask.Spawn unit args caps) h = (all_lives_on w u g args h.0, caps_on caps h.1)
  ask_on (ask.Join t) h = lives_on w u g (Thread t) h
  ask_on a h = tt

  -- a thread whose monitors stay
  thread_on : (j : ℕ) (th : threads.Thread) → ((n : Name) → hold u.monitors j n ≡ hold w.monitors j n) → IsValidThread w j th → IsValidThread u j th
  thread_on j th same h =
      let holds : HoldsAll u.monitors j th.contexts = λ n. subst (λ k. all_listings n th.contexts ≤ k) (sym (same n)) (holds_all w j th.contexts h.contexts h.counts n) in
      record {
        contexts = lived u j th.contexts (all_on placed_on th.contexts (placed w j th.contexts h.contexts)) holds;
        stacked = h.stacked;
        result = outcome_on th.result h.result;
        ended = h.ended;
        counts = takings_all u j th.contexts holds;
      }

-- ---- lists of threads

set_found : (t j : ℕ) (xs : List threads.Thread) (a b : threads.Thread) → slice_get (slice_set xs t a) j ≡ Some b → ((j ≡ t) × (a ≡ b)) ⊎ ((j ≡ t → ⊥) × (slice_get xs j ≡ Some b))
set_found t j [] a b e = absurd cc
set_found zero zero (x ∷ xs) a b e = inl (refl, some_inj a b e)
set_found zero (suc j) (x ∷ xs) a b e = inr (λ q. absurd (omega arith), e)
set_found (suc t) zero (x ∷ xs) a b e = inr (λ q. absurd (omega arith), e)
set_found (suc t) (suc j) (x ∷ xs) a b e = by (set_found t j xs a b e)
  where
    by : ((j ≡ t) × (a ≡ b)) ⊎ ((j ≡ t → ⊥) × (slice_get xs j ≡ Some b)) → ((suc j ≡ suc t) × (a ≡ b)) ⊎ ((suc j ≡ suc t → ⊥) × (slice_get xs j ≡ Some b))
    by (inl h) = inl (ap suc h.0, h.1)
    by (inr h) = inr (λ q. h.0 (omega arith), h.1)

last_found : (xs : List threads.Thread) (a : threads.Thread) (j : ℕ) (b : threads.Thread) → slice_get (xs ++ a ∷ []) j ≡ Some b → (slice_get xs j ≡ Some b) ⊎ (a ≡ b)
last_found [] a zero b e = inr (some_inj a b e)
last_found [] a (suc j) b e = absurd cc
last_found (x ∷ xs) a zero b e = inl e
last_found (x ∷ xs) a (suc j) b e = last_found xs a j b e

listings_append : (n : Name) (cs ds : List Context) → all_listings n (cs ++ ds) ≡ all_listings n cs + all_listings n ds
listings_append n [] ds = omega arith
listings_append n (c ∷ cs) ds = let e = listings_append n cs ds in omega arith

-- ---- a new thread

pub started_valid : (u : World) (j : ℕ) (code : CodeTree) (unit : ℕ) (args : List Value) (caps : Caps) → AllLive u args → AreKnown u caps → IsValidThread u j (started code unit args caps)
started_valid u j code unit args caps h k =
    let th = started code unit args caps in
    let none : HoldsAll u.monitors j th.contexts = λ n. omega arith in
    record {
      contexts = lived u j th.contexts (record { label = public_known u; caps = k; inside = record { frame = entered_live u code unit args h; callers = tt }; held = tt }, tt) none;
      stacked = record { phase = refl; label = refl; depth = refl };
      result = tt;
      ended = refl;
      counts = takings_all u j th.contexts none;
    }

new_threads_valid : (code : CodeTree) (t : ℕ) (w : World) (e : Effect) → EffectLives (effect_of code t e w) e → ((j : ℕ) (th : threads.Thread) → thread_at w j ≡ Some th → IsValidThread (effect_of code t e w) j th) → (j : ℕ) (th : threads.Thread) → thread_at (effect_of code t e w) j ≡ Some th → IsValidThread (effect_of code t e w) j th
new_threads_valid code t w (adds_thread unit args caps) l all j th f = by (last_found w.threads (started code unit args caps) j th f)
  where
    by : (slice_get w.threads j ≡ Some th) ⊎ (started code unit args caps ≡ th) → IsValidThread (effect_of code t (adds_thread unit args caps) w) j th
    by (inl g) = all j th g
    by (inr g) = subst (IsValidThread (effect_of code t (adds_thread unit args caps) w) j) g (started_valid _ j code unit args caps l.0 l.1)
new_threads_valid code t w e l all j th f = all j th f

-- ---- effects beside a change of the acting thread

monitors_after : (code : CodeTree) (t : ℕ) (w : World) (e : Effect) → (effect_of code t e w).monitors ≡ touched w.monitors t e
monitors_after code t w (takes_monitor n) = refl
monitors_after code t w (gives_back n) = refl
monitors_after code t w (drops ns) = refl
monitors_after code t w e = refl

as_many : (t : ℕ) (xs : List threads.Thread) (to new : threads.Thread) → length (xs ++ new ∷ []) ≤ length (slice_set xs t to ++ new ∷ [])
as_many t xs to new =
    let a : length (xs ++ new ∷ []) ≡ length xs + 1 = length-append xs (new ∷ []) in
    let b : length (slice_set xs t to ++ new ∷ []) ≡ length (slice_set xs t to) + 1 = length-append (slice_set xs t to) (new ∷ []) in
    let c = length-set t xs to in
    omega arith

beside : (code : CodeTree) (t : ℕ) (w : World) (to : threads.Thread) (e : Effect) → Grows (effect_of code t e w) (effect_of code t e (with_thread w t to))
beside code t w to (adds_thread unit args caps) =
    with_list (effect_of code t (adds_thread unit args caps) w) (slice_set w.threads t to ++ started code unit args caps ∷ []) (as_many t w.threads to (started code unit args caps))
beside code t w to e = thread_grows (effect_of code t e w) t to

-- what is public stays
public_after : (code : CodeTree) (t : ℕ) (w : World) (e : Effect) → (effect_of code t e w).public ≡ w.public
public_after code t w nothing = refl
public_after code t w e = refl

public_known_after : (code : CodeTree) (t : ℕ) (w : World) (e : Effect) → Grows w (effect_of code t e w) → AreKnown w w.public → AreKnown (effect_of code t e w) (effect_of code t e w).public
public_known_after code t w e g h = subst (AreKnown (effect_of code t e w)) (sym (public_after code t w e)) (caps_on w (effect_of code t e w) g w.public h)

-- ---- one turn

-- an end is always done
ends_done : (w : World) (c : Context) (a : Ask) → EndsDone a (serve w c a).answer
unfolding under unless
ends_done w c (ask.End r) = refl
ends_done w c a = tt

fits_phase : (code : CodeTree) (c : Context) (a : Ask) → AskIs code c a → FitsPhase c a
fits_phase code c ask.Leave h = h
fits_phase code c (ask.Caught f) h = h
fits_phase code c (ask.Suppressed f) h = h
fits_phase code c (ask.End r) h = h
fits_phase code c a h = tt

module _ (code : CodeTree) (w : World) (valid : IsValid w) (t : ℕ) (th : threads.Thread) (c : Context) (rest : List Context) (at : thread_at w t ≡ Some th) (list : th.contexts ≡ c ∷ rest) where
  here : IsValidThread w t th
  here = valid.threads t th at

  all : AllByRecursion (ContextLives w t) (c ∷ rest)
  all = subst (λ cs. AllByRecursion (ContextLives w t) cs) list here.contexts

  stack : AreStacked (c ∷ rest)
  stack = subst AreStacked list here.stacked

  goes_still : is_none th.result ≡ true
  goes_still = here.ended ∙ ap has_contexts list

  holds : HoldsAll w.monitors t (c ∷ rest)
  holds = holds_all w t (c ∷ rest) all (subst (λ cs. (n : Name) → all_listings n cs ≤ takings w.monitors n) list here.counts)

  set : AllByRecursion (IsPlaced w) (c ∷ rest)
  set = placed w t (c ∷ rest) all

  -- the threads beside the acting one
  others : (u : World) → Grows w u → ((j : ℕ) → (j ≡ t → ⊥) → (n : Name) → hold u.monitors j n ≡ hold w.monitors j n) → (to : threads.Thread) → IsValidThread u t to → (j : ℕ) (tj : threads.Thread) → thread_at (with_thread w t to) j ≡ Some tj → IsValidThread u j tj
  others u g same to acting j tj e = by (set_found t j w.threads to tj e)
    where
      by : ((j ≡ t) × (to ≡ tj)) ⊎ ((j ≡ t → ⊥) × (slice_get w.threads j ≡ Some tj)) → IsValidThread u j tj
      by (inl h) = subst (λ x. IsValidThread u x tj) (sym h.0) (subst (IsValidThread u t) h.1 acting)
      by (inr h) = thread_on w u g j tj (same j h.0) (valid.threads j tj h.1)

  -- ---- a private turn

  private_valid : (i : Inside) → InsideLives w i → IsSoundWorld (goes_on w t th c rest i).world → IsValid (goes_on w t th c rest i).world
  private_valid i l s =
      let to : threads.Thread = record { contexts = with_inside c i ∷ rest; result = th.result } in
      let u = with_thread w t to in
      let g = thread_grows w t to in
      let mine : HoldsAll u.monitors t to.contexts = holds in
      let acting : IsValidThread u t to
      = record {
        contexts = lived u t to.contexts (moved_placed u code c i (placed_on w u g c set.0) (inside_on w u g i l), all_on (placed_on w u g) rest set.1) mine;
        stacked = instead c (with_inside c i) rest (record { phase = refl; label = refl; depth = refl }) stack;
        result = outcome_on w u g th.result here.result;
        ended = goes_still;
        counts = takings_all u t to.contexts mine;
      } in
      record {
        sound = s.stores;
        live = moved_live w u g valid.live refl refl refl refl;
        public = caps_on w u g w.public valid.public;
        threads = others u g (λ j apart n. refl) to acting;
        tags = s.tags;
        number = s.threads;
      }

  -- ---- an ask

  module _ (a : Ask) (i : Inside) (la : AskLives w a) (li : InsideLives w i) (fits : FitsPhase c a) (can : is_ready w t c a ≡ true) where
    service : Served
    service = serve w c a

    abbrev to : threads.Thread
    to = takes code th c rest i a (serve w c a).answer

    abbrev between : World
    between = with_thread w t to

    abbrev after : World
    after = effect_of code t (serve w c a).effect between

    one : Grows w between
    one = thread_grows w t to

    two : Grows between after
    two = effect_grows code t (serve w c a).effect between (same_stores w t to valid.sound)

    both : Grows w after
    both = grows_on w between after one two

    row : AnswerLives (effect_of code t (serve w c a).effect w) (serve w c a).answer × EffectLives w (serve w c a).effect
    row = live_row code t w valid c (all.0).label a la

    answer_lives : AnswerLives after (serve w c a).answer
    answer_lives = answer_on (effect_of code t (serve w c a).effect w) after (beside code t w to (serve w c a).effect) (serve w c a).answer row.0

    stores_live : StoresLive after
    stores_live = effect_live code t between (same_stores w t to valid.sound) (moved_live w between one valid.live refl refl refl refl) (serve w c a).effect (effect_on w between one (serve w c a).effect row.1)

    monitors_now : after.monitors ≡ touched w.monitors t (serve w c a).effect
    monitors_now = monitors_after code t between (serve w c a).effect

    same_monitors : (j : ℕ) → (j ≡ t → ⊥) → (n : Name) → hold after.monitors j n ≡ hold w.monitors j n
    same_monitors j apart n = ap (λ m. hold m j n) monitors_now ∙ touched_other w.monitors t j apart (serve w c a).effect (free_row w t c a can la) n

    contexts_now : to.contexts ≡ front code c i a (serve w c a).answer ++ rest
    contexts_now = answered_front code c rest i a (serve w c a).answer

    holds_now : HoldsAll after.monitors t to.contexts
    holds_now n =
        let before = holds n in
        let change = holds_row code t w c i a (both_true (may_ask c a) (not (waits w t c a)) can).0 n in
        let split = ap (all_listings n) contexts_now ∙ listings_append n (front code c i a (serve w c a).answer) rest in
        let now_held : hold after.monitors t n ≡ hold (touched w.monitors t (serve w c a).effect) t n = ap (λ m. hold m t n) monitors_now in
        omega arith

    placed_now : AllByRecursion (IsPlaced after) to.contexts
    placed_now =
        subst (λ cs. AllByRecursion (IsPlaced after) cs) (sym contexts_now)
        (all_append (IsPlaced after) (front code c i a (serve w c a).answer) rest
        (front_placed after code c i a (serve w c a).answer (placed_on w after both c set.0) (inside_on w after both i li) (ask_on w after both a la) answer_lives (served_proper w c a).own)
        (all_on (placed_on w after both) rest set.1))

    acting_valid : IsValidThread after t to
    acting_valid =
        record {
          contexts = lived after t to.contexts placed_now holds_now;
          stacked = answered_stacked code c rest i stack a (serve w c a).answer fits;
          result = result_lives after th.result (outcome_on w after both th.result here.result) a (ask_on w after both a la);
          ended = answered_ended code c rest i stack th.result goes_still a (serve w c a).answer fits (ends_done w c a);
          counts = takings_all after t to.contexts holds_now;
        }

    served_valid : IsSoundWorld after → IsValid after
    served_valid s =
        record {
          sound = s.stores;
          live = stores_live;
          public = public_known_after code t between (serve w c a).effect two (caps_on w between one w.public valid.public);
          threads = new_threads_valid code t between (serve w c a).effect (effect_on w after both (serve w c a).effect row.1) (others after both same_monitors to acting_valid);
          tags = s.tags;
          number = s.threads;
        }

  turn_valid : (nx : Next) (m : Moment) → NextLives w nx → NextIs code c nx → turn_by code w t th c rest nx ≡ Some m → (FindsLiving w m.event.what → IsSoundWorld m.world) → IsValid m.world
  turn_valid (goes i) m l is h =
      subst (λ (n : Moment). (FindsLiving w n.event.what → IsSoundWorld n.world) → IsValid n.world) (some_inj (goes_on w t th c rest i) m h) (λ s. private_valid i l (s tt))
  turn_valid (asks a i) m l is h =
      let r = only (is_ready w t c a) (served code w t th c rest a i (serve w c a)) m h in
      subst (λ (n : Moment). (FindsLiving w n.event.what → IsSoundWorld n.world) → IsValid n.world) r.1
      (λ s. served_valid a i l.0 l.1 (fits_phase code c a is) r.0 (s (copies_living w a l.0)))
  turn_valid stuck m l is h = absurd cc

pub stay_valid : (code : CodeTree) → StaysValid code
stay_valid code is w t m valid h =
    let a = acts code w t m h in
    let sound : IsSoundWorld w = record { stores = valid.sound; tags = valid.tags; threads = valid.number } in
    turn_valid code w valid t a.thread a.top a.rest a.at a.list (next_of code a.top) m (name_what_lives code is w t a.thread a.top a.rest valid a.at a.list) (next_is code a.top) a.gives (stay_sound code w t m sound h)

-- ---- runs

pub runs_valid : (code : CodeTree) → RunsStayValid code
runs_valid code is w [] valid = (tt, valid)
runs_valid code is w (t ∷ ts) valid = by (step code w t) refl (λ v. runs_valid code is v ts)
  where
    by : (o : Option Moment) → step code w t ≡ o → ((v : World) → IsValid v → AllByRecursion (λ (m : Moment). IsValid m.world) (moments code ts v) × IsValid (left_by v (moments code ts v))) → AllByRecursion (λ (m : Moment). IsValid m.world) (and_then o (moments code ts)) × IsValid (left_by w (and_then o (moments code ts)))
    by None e more = (tt, valid)
    by (Some m) e more = let v = stay_valid code is w t m valid e in let r = more m.world v in ((v, r.0), r.1)

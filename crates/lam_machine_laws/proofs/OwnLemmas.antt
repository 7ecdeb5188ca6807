-- What its own turns make of a thread: one turn, and then many by the first.
use Rattle.std.proofs.Common.{◌≡◌, ℕ, zero, suc, Bool, true, false, cond, List, [], ◌∷◌, ◌++◌, Option, Some, None, length, refl, sym, ap, subst, ◌∙◌, arith}
use Rattle.std.specs.Prelude.{nat_eq, map, filter, slice_get, slice_set}
use Rattle.std.proofs.lemmas.Bool.Decides.{nat_tests}
use Rattle.lam_value.specs.declared.values.Value.TheVariants as value
use Rattle.lam_machine_effects.specs.Answer.{Answer}
use Rattle.lam_machine_effects.specs.Answer.TheVariants.{Val}
use Rattle.lam_machine_effects.specs.What.{What}
use Rattle.lam_machine_effects.specs.What.TheVariants.{Asked}
use Rattle.lam_machine_effects.specs.Ask.{Ask}
use Rattle.lam_machine_effects.specs.Ask.TheVariants as ask
use Rattle.lam_machine_effects.specs.Codes.{CodeTree}
use Rattle.lam_machine_effects.specs.Threads.{Inside, Context, Thread}
use Rattle.lam_machine_effects.specs.Next.{Next, goes, asks, stuck, next_of, with_inside, takes, started}
use Rattle.lam_machine_effects.specs.Worlds.{World, thread_at, with_thread}
use Rattle.lam_machine_effects.specs.Serves.{Effect, adds_thread, effect_of, Served}
use Rattle.lam_machine_effects.specs.Serving.{served_by, publicly, serve}
use Rattle.lam_machine_effects.specs.Turns.{is_ready, Moment, goes_on, served, turn_by, step, and_then, moments, left_by, replay}
use Rattle.lam_machine_laws.proofs.ThreadLemmas.{some_inj, length-set}
use Rattle.lam_machine_laws.proofs.TurnLemmas.{acts, only, turn_thread}
use Rattle.lam_machine_laws.proofs.JudgedLemmas.{judged_by}
use Rattle.lam_machine_laws.specs.Judged.{deed_by}
use Rattle.lam_machine_laws.specs.Own.{OwnTurn, IsSpawned, Touches, TurnsTouchTheirThread, done_by, OwnTurns, ComesFrom, ThreadsFollowTheirTurns}

-- ---- lists of threads

pub set_here : (t : ℕ) (xs : List Thread) (a b : Thread) → slice_get xs t ≡ Some b → slice_get (slice_set xs t a) t ≡ Some a
set_here t [] a b e = absurd cc
set_here zero (x ∷ xs) a b e = refl
set_here (suc t) (x ∷ xs) a b e = set_here t xs a b e

set_apart : (t j : ℕ) (xs : List Thread) (a : Thread) → (j ≡ t → ⊥) → slice_get (slice_set xs t a) j ≡ slice_get xs j
set_apart t j [] a apart = refl
set_apart zero zero (x ∷ xs) a apart = absurd (apart refl)
set_apart zero (suc j) (x ∷ xs) a apart = refl
set_apart (suc t) zero (x ∷ xs) a apart = refl
set_apart (suc t) (suc j) (x ∷ xs) a apart = set_apart t j xs a (λ e. apart (ap suc e))

front_stays : (xs : List Thread) (a : Thread) (j : ℕ) (b : Thread) → slice_get xs j ≡ Some b → slice_get (xs ++ a ∷ []) j ≡ Some b
front_stays [] a j b e = absurd cc
front_stays (x ∷ xs) a zero b e = e
front_stays (x ∷ xs) a (suc j) b e = front_stays xs a j b e

-- what stands in the longer list and not in the shorter is the last
last_new : (xs : List Thread) (a : Thread) (j : ℕ) (b : Thread) → slice_get xs j ≡ None → slice_get (xs ++ a ∷ []) j ≡ Some b → (j ≡ length xs) × (a ≡ b)
last_new [] a zero b n e = (refl, some_inj a b e)
last_new [] a (suc j) b n e = absurd cc
last_new (x ∷ xs) a zero b n e = absurd cc
last_new (x ∷ xs) a (suc j) b n e = let h = last_new xs a j b n e in (ap suc h.0, h.1)

-- where none stands, none stands after a change of another
none_set : (t j : ℕ) (xs : List Thread) (a : Thread) → slice_get xs j ≡ None → slice_get (slice_set xs t a) j ≡ None
none_set t j [] a e = e
none_set zero zero (x ∷ xs) a e = absurd cc
none_set zero (suc j) (x ∷ xs) a e = e
none_set (suc t) zero (x ∷ xs) a e = e
none_set (suc t) (suc j) (x ∷ xs) a e = none_set t j xs a e

-- ---- what starts a thread

-- a thread is added where a spawn is answered with its number, and only there
abbrev SpawnsBy : World → Ask → Effect → Answer → Type 0
SpawnsBy w a (adds_thread unit args caps) x = (a ≡ ask.Spawn unit args caps) × (x ≡ Val (value.Thread (length w.threads)))
SpawnsBy w a e x = Unit {0}

abbrev SpawnServed : World → Ask → Served → Type 0
SpawnServed w a d = SpawnsBy w a d.effect d.answer

done_spawn : (w : World) (c : Context) (a : Ask) → SpawnServed w a (deed_by w c a)
done_spawn w c (ask.Spawn unit args caps) = (refl, refl)
done_spawn w c a = tt

spawn_row : (w : World) (c : Context) (a : Ask) → SpawnServed w a (served_by w c a)
spawn_row w c a = judged_by (SpawnServed w a) w c a (λ x e. tt) (λ f e g. tt) (λ e g. done_spawn w c a)

-- ---- one turn

effect_keeps : (code : CodeTree) (t : ℕ) (e : Effect) (w : World) (j : ℕ) (th : Thread) → thread_at w j ≡ Some th → thread_at (effect_of code t e w) j ≡ Some th
effect_keeps code t (adds_thread unit args caps) w j th h = front_stays w.threads (started code unit args caps) j th h
effect_keeps code t e w j th h = h

started_by : (code : CodeTree) (w : World) (t : ℕ) (to : Thread) (e : Effect) (a : Ask) (x : Answer) → SpawnsBy w a e x → (j : ℕ) (th : Thread) → thread_at w j ≡ None → thread_at (effect_of code t e (with_thread w t to)) j ≡ Some th → IsSpawned code j (Asked a x) th
started_by code w t to (adds_thread unit args caps) a x h j th none f =
    let l = last_new (slice_set w.threads t to) (started code unit args caps) j th (none_set t j w.threads to none) f in
    let number : length w.threads ≡ j = sym (l.0 ∙ length-set t w.threads to) in
    record {
      unit = unit;
      args = args;
      caps = caps;
      asked = ap (λ b. Asked b x) h.0 ∙ ap (Asked (ask.Spawn unit args caps)) (h.1 ∙ ap (λ n. Val (value.Thread n)) number);
      it = sym l.1;
    }
started_by code w t to e a x h j th none f = let gone = none_set t j w.threads to none in absurd cc

module _ (code : CodeTree) (w : World) (t : ℕ) (th : Thread) (c : Context) (rest : List Context) (at : thread_at w t ≡ Some th) (list : th.contexts ≡ c ∷ rest) where
  went_touches : (i : Inside) → next_of code c ≡ goes i → Touches code w t (goes_on w t th c rest i)
  went_touches i e =
      let to : Thread = record { contexts = with_inside c i ∷ rest; result = th.result } in
      record {
        before = th;
        after = to;
        at = at;
        then_at = set_here t w.threads to th at;
        own = record { top = c; rest = rest; list = list; turns = (i, e, refl) };
        others = λ u b apart h. set_apart t u w.threads to apart ∙ h;
        new = λ u b none h. (let gone = none_set t u w.threads to none in absurd cc);
      }

  asked_touches : (a : Ask) (i : Inside) → next_of code c ≡ asks a i → Touches code w t (served code w t th c rest a i (serve w c a))
  asked_touches a i e =
      let d = serve w c a in
      let to = takes code th c rest i a d.answer in
      let between = with_thread w t to in
      record {
        before = th;
        after = to;
        at = at;
        then_at = effect_keeps code t d.effect between t to (set_here t w.threads to th at);
        own = record { top = c; rest = rest; list = list; turns = (i, e, refl) };
        others = λ u b apart h. effect_keeps code t d.effect between u b (set_apart t u w.threads to apart ∙ h);
        new = λ u b none h. started_by code w t to d.effect a d.answer (spawn_row w (publicly w.public c) a) u b none h;
      }

  next_touches : (nx : Next) (m : Moment) → next_of code c ≡ nx → turn_by code w t th c rest nx ≡ Some m → Touches code w t m
  next_touches (goes i) m e h = subst (Touches code w t) (some_inj (goes_on w t th c rest i) m h) (went_touches i e)
  next_touches (asks a i) m e h = subst (Touches code w t) (only (is_ready w t c a) (served code w t th c rest a i (serve w c a)) m h).1 (asked_touches a i e)
  next_touches stuck m e h = absurd cc

pub touch : (code : CodeTree) → TurnsTouchTheirThread code
touch code w t m h =
    let a = acts code w t m h in
    next_touches code w t a.thread a.top a.rest a.at a.list (next_of code a.top) m refl a.gives

-- ---- many turns

pub same_number : (a b : ℕ) → nat_eq a b ≡ true → a ≡ b
same_number a b e = grind (arith, nat_tests, e)

own_number : (t : ℕ) → nat_eq t t ≡ true
own_number t = grind (arith, nat_tests)

pub other_number : (a b : ℕ) → nat_eq a b ≡ false → b ≡ a → ⊥
other_number a b e same = let no : nat_eq a b ≡ true = ap (nat_eq a) same ∙ own_number a in cc

abbrev Follows : CodeTree → ℕ → World → Thread → List Moment → Type 0
Follows code u w th ms = (after : Thread) × (thread_at (left_by w ms) u ≡ Some after) × OwnTurns code th (done_by u ms) after

abbrev pub whats : List Moment → List What
whats ms = map (λ (m : Moment). m.event.what) ms

module _ (code : CodeTree) (u : ℕ) where
  one_then : (w : World) (t : ℕ) (m : Moment) (ms : List Moment) (th : Thread) → step code w t ≡ Some m → thread_at w u ≡ Some th → ((v : Thread) → thread_at m.world u ≡ Some v → Follows code u m.world v ms) → Follows code u w th (m ∷ ms)
  one_then w t m ms th e at more = by (nat_eq m.event.thread u) refl
    where
      by : (b : Bool) → nat_eq m.event.thread u ≡ b → (after : Thread) × (thread_at (left_by m.world ms) u ≡ Some after) × OwnTurns code th (whats (cond b (m ∷ filter (λ (k : Moment). nat_eq k.event.thread u) ms) (filter (λ (k : Moment). nat_eq k.event.thread u) ms))) after
      by true q =
          let k = touch code w t m e in
          let acts_now : t ≡ u = sym (turn_thread code w t m e) ∙ same_number m.event.thread u q in
          let r = more k.after (subst (λ n. thread_at m.world n ≡ Some k.after) acts_now k.then_at) in
          let same : k.before ≡ th = some_inj k.before th (sym k.at ∙ subst (λ n. thread_at w n ≡ Some th) (sym acts_now) at) in
          (r.0, r.1, (k.after, subst (λ x. OwnTurn code x m.event.what k.after) same k.own, r.2))
      by false q =
          let k = touch code w t m e in
          more th (k.others u th (λ s. other_number m.event.thread u q (s ∙ sym (turn_thread code w t m e))) at)

  old_follows : (w : World) (turns : List ℕ) (th : Thread) → thread_at w u ≡ Some th → Follows code u w th (moments code turns w)
  old_follows w [] th at = (th, at, refl)
  old_follows w (t ∷ ts) th at = by (step code w t) refl (λ v. old_follows v ts)
    where
      by : (o : Option Moment) → step code w t ≡ o → ((v : World) (th : Thread) → thread_at v u ≡ Some th → Follows code u v th (moments code ts v)) → Follows code u w th (and_then o (moments code ts))
      by None e more = (th, at, refl)
      by (Some m) e more = one_then w t m (moments code ts m.world) th e at (λ v f. more m.world v f)

  new_follows : (w : World) (turns : List ℕ) (after : Thread) → thread_at w u ≡ None → thread_at (replay code turns w) u ≡ Some after → ComesFrom code u (moments code turns w) after
  new_follows w [] after none at = absurd cc
  new_follows w (t ∷ ts) after none at = by (step code w t) refl at (λ v. new_follows v ts)
    where
      by : (o : Option Moment) → step code w t ≡ o → thread_at (left_by w (and_then o (moments code ts))) u ≡ Some after → ((v : World) (after : Thread) → thread_at v u ≡ None → thread_at (replay code ts v) u ≡ Some after → ComesFrom code u (moments code ts v) after) → ComesFrom code u (and_then o (moments code ts)) after
      by None e f more = absurd cc
      by (Some m) e f more = here (thread_at m.world u) refl
        where
          here : (x : Option Thread) → thread_at m.world u ≡ x → ComesFrom code u (m ∷ moments code ts m.world) after
          here None g =
              let r = more m.world after g f in
              record {
                before = m ∷ r.before;
                spawning = r.spawning;
                later = r.later;
                parts = ap (λ (l : List Moment). m ∷ l) r.parts;
                entry = r.entry;
                spawned = r.spawned;
                goes_on = r.goes_on;
              }
          here (Some th) g =
              let r = old_follows m.world ts th g in
              record {
                before = [];
                spawning = m;
                later = moments code ts m.world;
                parts = refl;
                entry = th;
                spawned = (touch code w t m e).new u th none g;
                goes_on = subst (OwnTurns code th (done_by u (moments code ts m.world))) (some_inj r.0 after (sym r.1 ∙ f)) r.2;
              }

pub follow : (code : CodeTree) → ThreadsFollowTheirTurns code
follow code = record { old = λ w turns u th at. old_follows code u w turns th at; new = λ w turns u after none at. new_follows code u w turns after none at }

-- What the capabilities of contexts may be after a turn.
use Rattle.std.proofs.Common.{◌≡◌, ℕ, zero, suc, List, [], ◌∷◌, ◌++◌, Option, Some, None, refl, sym, ap, ◌∙◌, subst}
use Rattle.std.specs.Prelude.{map, slice_get}
use Rattle.std.specs.List.{AllByRecursion}
use Rattle.flow_labels.specs.Flow.{public_label}
use Rattle.flow_labels.specs.declared.Denied.{Denied}
use Rattle.flow_labels.specs.Failing.{first_failing, same_test}
use Rattle.lam_machine_effects.specs.Caps.{Caps}
use Rattle.lam_machine_effects.specs.Changes.{Covers, joined, change_test, covers_test}
use Rattle.lam_value.specs.declared.values.Value.{Value}
use Rattle.lam_value.specs.declared.values.Value.TheVariants.{Tag, CapV}
use Rattle.lam_machine_effects.specs.Fault.{Fault}
use Rattle.lam_machine_effects.specs.Answer.{Answer}
use Rattle.lam_machine_effects.specs.Answer.TheVariants.{Done, Entered, Val, Refused, Failed}
use Rattle.lam_machine_effects.specs.Ask.{Ask}
use Rattle.lam_machine_effects.specs.Ask.TheVariants as ask
use Rattle.lam_machine_effects.specs.Codes.{CodeTree}
use Rattle.lam_machine_effects.specs.Threads.{Inside, Context, Thread}
use Rattle.lam_machine_effects.specs.Next.{Next, goes, asks, stuck, next_of, with_inside, given, gains, done, entered, started, takes}
use Rattle.lam_machine_effects.specs.Worlds.{World, thread_at, contexts_in, contexts_at, with_thread}
use Rattle.lam_machine_effects.specs.Serves.{Effect, nothing, adds_thread, effect_of, Served, answers}
use Rattle.lam_machine_effects.specs.Serving.{served_by, publicly, serve}
use Rattle.lam_machine_effects.specs.Turns.{is_ready, Moment, goes_on, served, turn_by}
use Rattle.lam_machine_laws.proofs.FlowLemmas.{each_passes}
use Rattle.lam_machine_laws.proofs.ThreadLemmas.{some_inj, there, front, answered_front}
use Rattle.lam_machine_laws.proofs.TurnLemmas.{acts, only}
use Rattle.lam_machine_laws.proofs.JudgedLemmas.{judged_by}
use Rattle.lam_machine_laws.specs.Judged.{deed_by}
use Rattle.lam_machine_laws.specs.Tests.{tests_of}
use Rattle.lam_machine_laws.specs.Laws.{granted, left_after, AreEntered, AreAfter, AreHeld, CapsDoNotGrow}
use Rattle.lam_machine_laws.proofs.BackLemmas.{at_after, set_there, effect_threads, still_there}
use Rattle.lam_machine_laws.proofs.AllowedLemmas.{covers_passes}

-- ---- the contexts of the acting thread

gains_caps : (a : Ask) (v : Value) (d : Context) → (gains a v d).caps ≡ granted a v d.caps
gains_caps ask.Mint (Tag t) d = refl
gains_caps (ask.ReceiveCaps p) (CapV plus minus) d = refl
gains_caps a v d = refl

abbrev caps_in : List Context → List Caps
caps_in ds = map (λ (d : Context). d.caps) ds

done_caps : (code : CodeTree) (c : Context) (i : Inside) (a : Ask) → caps_in (done code c [] i a) ≡ left_after c.caps a
done_caps code c i ask.Leave = refl
done_caps code c i a = refl

-- the capabilities of a region that is entered are held
abbrev CoversEntry : Caps → Caps → Answer → Type 0
CoversEntry k d Entered = Covers k d
CoversEntry k d x = Unit {0}

abbrev EntersBelow : Caps → Ask → Answer → Type 0
EntersBelow k (ask.Enter l d r vs) x = CoversEntry k d x
EntersBelow k a x = Unit {0}

entered_caps : (public : Caps) (code : CodeTree) (c : Context) (i : Inside) (a : Ask) → EntersBelow (joined c.caps public) a Entered → AreEntered public c.caps a (caps_in (entered code c [] i a))
entered_caps public code c i (ask.Enter l k r vs) h = (refl, h)
entered_caps public code c i a h = refl

front_caps : (public : Caps) (code : CodeTree) (c : Context) (i : Inside) (a : Ask) (x : Answer) → EntersBelow (joined c.caps public) a x → AreAfter public c.caps a x (caps_in (front code c i a x))
front_caps public code c i a Done h = done_caps code c i a
front_caps public code c i a Entered h = entered_caps public code c i a h
front_caps public code c i a (Val v) h = ap (λ k. k ∷ []) (gains_caps a v (given c i v))
front_caps public code c i a (Refused d) h = refl
front_caps public code c i a (Failed f) h = refl

-- ---- rows

abbrev EntersRight : Caps → Ask → Served → Type 0
EntersRight k a d = EntersBelow k a d.answer

done_enters : (w : World) (c : Context) (a : Ask) → first_failing (tests_of w c a) ≡ None → EntersRight c.caps a (deed_by w c a)
done_enters w c (ask.Enter l k region args) e = covers_passes c.caps k (each_passes (change_test c.caps c.label l) (covers_test c.caps k) e).1
done_enters w c a e = tt

refused_enters : (k : Caps) (a : Ask) (x : Denied) → EntersRight k a (answers (Refused x))
refused_enters k (ask.Enter l d r vs) x = tt
refused_enters k a x = tt

failed_enters : (k : Caps) (a : Ask) (f : Fault) → EntersRight k a (answers (Failed f))
failed_enters k (ask.Enter l d r vs) f = tt
failed_enters k a f = tt

entry_row : (w : World) (c : Context) (a : Ask) → EntersRight c.caps a (served_by w c a)
entry_row w c a = judged_by (EntersRight c.caps a) w c a (λ x e. refused_enters c.caps a x) (λ f e g. failed_enters c.caps a f) (λ e g. done_enters w c a e)

-- the capabilities of a new thread are held
abbrev Spawns : Caps → Effect → Type 0
Spawns k (adds_thread unit args caps) = Covers k caps
Spawns k e = Unit {0}

abbrev SpawnsRight : Caps → Served → Type 0
SpawnsRight k d = Spawns k d.effect

done_spawns : (w : World) (c : Context) (a : Ask) → first_failing (tests_of w c a) ≡ None → SpawnsRight c.caps (deed_by w c a)
done_spawns w c (ask.Spawn unit args caps) e = covers_passes c.caps caps (each_passes (same_test c.label public_label) (covers_test c.caps caps) e).1
done_spawns w c a e = tt

spawn_row : (w : World) (c : Context) (a : Ask) → SpawnsRight c.caps (served_by w c a)
spawn_row w c a = judged_by (SpawnsRight c.caps) w c a (λ x e. tt) (λ f e g. tt) (λ e g. done_spawns w c a e)

-- ---- new threads

abbrev AllCovered : Caps → Option Thread → Type 0
AllCovered k x = AllByRecursion (λ (d : Context). Covers k d.caps) (contexts_in x)

grown_new : (P : Option Thread → Type 0) (xs : List Thread) (a : Thread) (j : ℕ) → slice_get xs j ≡ None → P None → P (Some a) → P (slice_get (xs ++ a ∷ []) j)
grown_new P [] a zero e no_one new = new
grown_new P [] a (suc j) e no_one new = no_one
grown_new P (x ∷ xs) a zero e no_one new = absurd cc
grown_new P (x ∷ xs) a (suc j) e no_one new = grown_new P xs a j e no_one new

nobody : (k : Caps) (x : Option Thread) → x ≡ None → AllCovered k x
nobody k x e = subst (AllCovered k) (sym e) tt

effect_covers : (code : CodeTree) (k : Caps) (t : ℕ) (e : Effect) (w : World) (j : ℕ) → Spawns k e → thread_at w j ≡ None → AllCovered k (thread_at (effect_of code t e w) j)
effect_covers code k t (adds_thread unit args caps) w j h n = grown_new (AllCovered k) w.threads (started code unit args caps) j n tt (h, tt)
effect_covers code k t e w j h n = nobody k (thread_at w j) n

-- ---- turns

record Kept (code : CodeTree) (w : World) (t : ℕ) (c : Context) (rest : List Context) (m : Moment) : Type 0 where
  to : Thread
  effect : Effect
  world : m.world ≡ effect_of code t effect (with_thread w t to)
  new : List Context
  form : to.contexts ≡ new ++ rest
  caps : AreHeld w.public c.caps m.event.what (caps_in new)
  spawns : Spawns (joined c.caps w.public) effect

kept_by : (code : CodeTree) (w : World) (t : ℕ) (th : Thread) (c : Context) (rest : List Context) (nx : Next) (m : Moment) → turn_by code w t th c rest nx ≡ Some m → Kept code w t c rest m
kept_by code w t th c rest (goes i) m h =
    subst (Kept code w t c rest) (some_inj (goes_on w t th c rest i) m h)
    (record { to = record { contexts = with_inside c i ∷ rest; result = th.result }; effect = nothing; world = refl; new = with_inside c i ∷ []; form = refl; caps = refl; spawns = tt })
kept_by code w t th c rest (asks a i) m h =
    let d = serve w c a in
    subst (Kept code w t c rest) (only (is_ready w t c a) (served code w t th c rest a i d) m h).1
    (record {
      to = takes code th c rest i a d.answer;
      effect = d.effect;
      world = refl;
      new = front code c i a d.answer;
      form = answered_front code c rest i a d.answer;
      caps = front_caps w.public code c i a d.answer (entry_row w (publicly w.public c) a);
      spawns = spawn_row w (publicly w.public c) a;
    })
kept_by code w t th c rest stuck m h = absurd cc

still_none : (w : World) (t : ℕ) (th to : Thread) (j : ℕ) → thread_at w t ≡ Some th → thread_at w j ≡ None → thread_at (with_thread w t to) j ≡ None
still_none w t th to j e n = at_after (λ x. x ≡ None) t j w.threads to n (λ s. absurd (no_such (thread_at w t) th e (sym (ap (thread_at w) s) ∙ n)))
  where
    no_such : (x : Option Thread) (th : Thread) → x ≡ Some th → x ≡ None → ⊥
    no_such x th e n = let both : Some th ≡ None = sym e ∙ n in cc

pub caps_stay : (code : CodeTree) → CapsDoNotGrow code
caps_stay code w t m h =
    let a = acts code w t m h in
    let k = kept_by code w t a.thread a.top a.rest (next_of code a.top) m a.gives in
    let u = with_thread w t k.to in
    let held = joined a.top.caps w.public in
    let here = there (thread_at w t) a.thread a.at in
    let mine = effect_threads code t k.effect u t (still_there w t k.to t here) ∙ set_there t w.threads k.to here in
    record {
      top = a.top;
      rest = a.rest;
      acting = ap contexts_in a.at ∙ a.list;
      new = k.new;
      after = ap (λ (v : World). contexts_at v t) k.world ∙ ap contexts_in mine ∙ k.form;
      caps = k.caps;
      others = λ j other is.
          ap (λ (v : World). contexts_at v j) k.world ∙ ap contexts_in (effect_threads code t k.effect u j (still_there w t k.to j is))
          ∙ at_after (λ x. contexts_in x ≡ contexts_at w j) t j w.threads k.to refl (λ s. absurd (other s));
      started = λ j none.
          subst (λ (v : World). AllCovered held (thread_at v j)) (sym k.world) (effect_covers code held t k.effect u j k.spawns (still_none w t a.thread k.to j a.at none));
    }

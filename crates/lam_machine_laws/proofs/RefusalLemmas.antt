-- Where an ask is refused, and that a refusal or a failure changes nothing.
use Rattle.std.proofs.Common.{◌≡◌, ℕ, List, ◌∷◌, Option, Some, None, refl, sym, ap, ◌∙◌, subst}
use Rattle.flow_labels.specs.declared.Denied.{Denied}
use Rattle.flow_labels.specs.Failing.{first_failing}
use Rattle.lam_machine_effects.specs.Fault.{Fault}
use Rattle.lam_machine_effects.specs.Fault.TheVariants as fault
use Rattle.lam_machine_effects.specs.Outcome.{Outcome}
use Rattle.lam_machine_effects.specs.Answer.{Answer}
use Rattle.lam_machine_effects.specs.Answer.TheVariants.{Done, Refused, Failed}
use Rattle.lam_machine_effects.specs.What.TheVariants.{Asked}
use Rattle.lam_machine_effects.specs.Ask.{Ask}
use Rattle.lam_machine_effects.specs.Ask.TheVariants.{Leave, End}
use Rattle.lam_machine_effects.specs.Codes.{CodeTree}
use Rattle.lam_machine_effects.specs.Threads.{Inside, Context, Thread}
use Rattle.lam_machine_effects.specs.Next.{Next, goes, asks, stuck, next_of, with_inside, faulted, takes, result_after}
use Rattle.lam_machine_effects.specs.Worlds.{World, thread_at, with_thread}
use Rattle.lam_machine_effects.specs.Serves.{nothing, effect_of, Served, under, unless}
use Rattle.lam_machine_effects.specs.Serving.{served_by, publicly, serve}
use Rattle.lam_machine_effects.specs.Turns.{is_ready, Moment, goes_on, served, turn_by, step}
use Rattle.lam_machine_laws.proofs.ThreadLemmas.{some_inj}
use Rattle.lam_machine_laws.proofs.TurnLemmas.{acts, only}
use Rattle.lam_machine_laws.proofs.JudgedLemmas.{judged_by}
use Rattle.lam_machine_laws.specs.Judged.{deed_by}
use Rattle.lam_machine_laws.specs.Tests.{tests_of, RefusalsNameTheFirst, OnlyFaults, RefusalsChangeNothing}

-- a refusal or a failure, and the fault that it raises
abbrev IsFault : Answer → Type 0
IsFault (Refused x) = Unit {0}
IsFault (Failed f) = Unit {0}
IsFault x = ⊥

abbrev fault_in : Answer → Fault
fault_in (Failed f) = f
fault_in x = fault.Denied

-- it has no effect and makes nothing
abbrev Quiet : Served → Type 0
Quiet d = IsFault d.answer → (d.effect ≡ nothing) × (d.made ≡ None)

-- what is done is neither
done_done : (w : World) (c : Context) (a : Ask) → IsFault (deed_by w c a).answer → ⊥
done_done w c Leave h = h
done_done w c a h = h

refused_inj : (x y : Denied) → Refused x ≡ Refused y → x ≡ y
refused_inj x y e = cc

none_some : {X : Type 0} (y : Option Denied) (x : Denied) → y ≡ None → y ≡ Some x → X
none_some y x e q = let both : None ≡ Some x = sym e ∙ q in absurd cc

quiet_row : (w : World) (c : Context) (a : Ask) → Quiet (served_by w c a)
quiet_row w c a = judged_by Quiet w c a (λ x e h. (refl, refl)) (λ f e g h. (refl, refl)) (λ e g h. absurd (done_done w c a h))

-- where an ask is refused, and where one of its tests fails
to_rule : (w : World) (c : Context) (a : Ask) (x : Denied) → (served_by w c a).answer ≡ Refused x → first_failing (tests_of w c a) ≡ Some x
to_rule w c a x =
    judged_by (λ (d : Served). d.answer ≡ Refused x → first_failing (tests_of w c a) ≡ Some x) w c a
    (λ y e q. e ∙ ap Some (refused_inj y x q)) (λ f e g q. absurd cc) (λ e g q. absurd (done_done w c a (subst IsFault (sym q) tt)))

by_rule : (w : World) (c : Context) (a : Ask) (x : Denied) → first_failing (tests_of w c a) ≡ Some x → (served_by w c a).answer ≡ Refused x
by_rule w c a x =
    let t = first_failing (tests_of w c a) in
    judged_by (λ (d : Served). t ≡ Some x → d.answer ≡ Refused x) w c a
    (λ y e q. ap Refused (some_inj y x (sym e ∙ q))) (λ f e g q. none_some t x e q) (λ e g q. none_some t x e q)

pub name_the_first : RefusalsNameTheFirst
name_the_first w c a x = let d = publicly w.public c in (to_rule w d a x, by_rule w d a x)

-- ---- nothing else changes

-- an ask that ends its thread is not refused and does not fail
abbrev EndsWell : Ask → Answer → Type 0
EndsWell (End out) Done = Unit {0}
EndsWell (End out) x = ⊥
EndsWell a x = Unit {0}

ends_well : (w : World) (c : Context) (a : Ask) → EndsWell a (serve w c a).answer
unfolding under unless
ends_well w c (End out) = tt
ends_well w c a = tt

still_result : (r : Option Outcome) (a : Ask) (x : Answer) → IsFault x → EndsWell a x → result_after r a ≡ r
still_result r (End out) Done is h = absurd is
still_result r (End out) x is h = absurd h
still_result r a x is h = refl

asked_answer : (a b : Ask) (x y : Answer) → Asked b y ≡ Asked a x → y ≡ x
asked_answer a b x y e = cc

-- the acting thread with a fault
faulty : World → ℕ → Thread → Context → List Context → Fault → Option Outcome → World
faulty w t th c rest f r = with_thread w t (record { contexts = with_inside c (faulted c.inside f) ∷ rest; result = r })

module _ (code : CodeTree) (w : World) (t : ℕ) (th : Thread) (c : Context) (rest : List Context) (at : thread_at w t ≡ Some th) (list : th.contexts ≡ c ∷ rest) where
  faulty_by : (b : Ask) (i : Inside) (x : Answer) → IsFault x → EndsWell b x → with_thread w t (takes code th c rest i b x) ≡ faulty w t th c rest (fault_in x) th.result
  unfolding faulty
  faulty_by b i (Refused d) is h = ap (faulty w t th c rest fault.Denied) (still_result th.result b (Refused d) tt h)
  faulty_by b i (Failed f) is h = ap (faulty w t th c rest f) (still_result th.result b (Failed f) tt h)
  faulty_by b i x is h = absurd is

  only_faults : (b : Ask) (i : Inside) (x : Answer) → IsFault x → (serve w c b).answer ≡ x → OnlyFaults w t (fault_in x) (served code w t th c rest b i (serve w c b))
  unfolding faulty
  only_faults b i x is e =
      let d = serve w c b in
      let q = quiet_row w (publicly w.public c) b (subst IsFault (sym e) is) in
      record {
        thread = th;
        top = c;
        rest = rest;
        at = at;
        list = list;
        made = q.1;
        world =
            ap (λ k. effect_of code t k (with_thread w t (takes code th c rest i b d.answer))) q.0
            ∙ ap (λ y. with_thread w t (takes code th c rest i b y)) e
            ∙ faulty_by b i x is (subst (EndsWell b) e (ends_well w c b));
      }

  next_faults : (nx : Next) (m : Moment) (a : Ask) (x : Answer) → IsFault x → turn_by code w t th c rest nx ≡ Some m → m.event.what ≡ Asked a x → OnlyFaults w t (fault_in x) m
  next_faults (goes i) m a x is h = subst (λ (n : Moment). n.event.what ≡ Asked a x → OnlyFaults w t (fault_in x) n) (some_inj (goes_on w t th c rest i) m h) (λ e. absurd cc)
  next_faults (asks b i) m a x is h =
      let d = serve w c b in
      subst (λ (n : Moment). n.event.what ≡ Asked a x → OnlyFaults w t (fault_in x) n) (only (is_ready w t c b) (served code w t th c rest b i d) m h).1
      (λ e. only_faults b i x is (asked_answer a b x d.answer e))
  next_faults stuck m a x is h = absurd cc

turn_faults : (code : CodeTree) (w : World) (t : ℕ) (m : Moment) (a : Ask) (x : Answer) → IsFault x → step code w t ≡ Some m → m.event.what ≡ Asked a x → OnlyFaults w t (fault_in x) m
turn_faults code w t m a x is h e = let s = acts code w t m h in next_faults code w t s.thread s.top s.rest s.at s.list (next_of code s.top) m a x is s.gives e

pub change_nothing : (code : CodeTree) → RefusalsChangeNothing code
change_nothing code = record { refused = λ w t m a x h e. turn_faults code w t m a (Refused x) tt h e; failed = λ w t m a f h e. turn_faults code w t m a (Failed f) tt h e }

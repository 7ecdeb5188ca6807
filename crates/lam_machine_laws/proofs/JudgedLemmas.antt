-- Each ask is served by its row. And what holds of its refusal, of its failure and of what is done holds of every ask.
use Rattle.std.proofs.Common.{◌≡◌, Option, Some, None, refl}
use Rattle.flow_labels.specs.declared.Denied.{Denied}
use Rattle.flow_labels.specs.Failing.{Test, first_failing}
use Rattle.lam_value.specs.declared.names.Name.{Name}
use Rattle.lam_value.specs.declared.values.Value.{Value}
use Rattle.lam_value.specs.declared.values.Value.TheVariants.{Obj, Arr}
use Rattle.lam_machine_effects.specs.Fault.{Fault}
use Rattle.lam_machine_effects.specs.Answer.TheVariants.{Refused, Failed}
use Rattle.lam_machine_effects.specs.Ask.{Ask}
use Rattle.lam_machine_effects.specs.Threads.{Context}
use Rattle.lam_machine_effects.specs.Worlds.{World}
use Rattle.lam_machine_effects.specs.Serves.{Served, answers, unless_denied, under, unless, of_thing, at_thing, name_in}
use Rattle.lam_machine_effects.specs.Serving.{served_by}
use Rattle.lam_machine_laws.specs.Tests.{tests_of}
use Rattle.lam_machine_laws.specs.Judged.{fault_by, deed_by, IsJudged, AsksAreJudged}

pub are_judged : AsksAreJudged
unfolding under unless
are_judged w c a = by (first_failing (tests_of w c a)) (fault_by w c a)
  where
    by : (x : Option Denied) (y : Option Fault) → IsJudged x y (deed_by w c a) (unless_denied x (unless y (deed_by w c a)))
    by (Some x) y = refl
    by None (Some y) = refl
    by None None = refl

judged_as : (P : Served → Type 0) (t : Test) (f : Option Fault) (d : Served) → ((x : Denied) → first_failing t ≡ Some x → P (answers (Refused x))) → ((x : Fault) → first_failing t ≡ None → f ≡ Some x → P (answers (Failed x))) → (first_failing t ≡ None → f ≡ None → P d) → P (under t (unless f d))
unfolding under unless
judged_as P t f d r k h = go (first_failing t) f refl refl
  where
    go : (x : Option Denied) (y : Option Fault) → first_failing t ≡ x → f ≡ y → P (unless_denied x (unless y d))
    go (Some x) y e g = r x e
    go None (Some y) e g = k y e g
    go None None e g = h e g

-- what holds of the refusal of an ask, of its failure, and of what is done where it has neither, holds of its service
pub judged_by : (P : Served → Type 0) (w : World) (c : Context) (a : Ask) → ((x : Denied) → first_failing (tests_of w c a) ≡ Some x → P (answers (Refused x))) → ((f : Fault) → first_failing (tests_of w c a) ≡ None → fault_by w c a ≡ Some f → P (answers (Failed f))) → (first_failing (tests_of w c a) ≡ None → fault_by w c a ≡ None → P (deed_by w c a)) → P (served_by w c a)
judged_by P w c a r k h = judged_as P (tests_of w c a) (fault_by w c a) (deed_by w c a) r k h

-- ---- where a reference leads to a thing

-- it is a reference to this thing
abbrev pub RefersTo : Value → Name → Type 0
RefersTo (Obj m) n = m ≡ n
RefersTo (Arr m len) n = m ≡ n
RefersTo v n = ⊥

pub refers : (r : Value) (fault : Name → Option Fault) → at_thing r fault ≡ None → RefersTo r (name_in r)
refers (Obj n) fault g = refl
refers (Arr n len) fault g = refl
refers r fault g = absurd cc

-- its own fault and its own test are those of the ask
pub followed : (r : Value) (fault : Name → Option Fault) → at_thing r fault ≡ None → fault (name_in r) ≡ None
followed (Obj n) fault g = g
followed (Arr n len) fault g = g
followed r fault g = absurd cc

pub tested : (r : Value) (test : Name → Test) (fault : Name → Option Fault) → at_thing r fault ≡ None → first_failing (of_thing r test) ≡ None → first_failing (test (name_in r)) ≡ None
tested (Obj n) test fault g e = e
tested (Arr n len) test fault g e = e
tested r test fault g e = absurd cc

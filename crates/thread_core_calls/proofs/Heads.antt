-- Operands by their heads.
use Rattle.std.proofs.Common.{◌≡◌, ℕ, suc, zero, List, [], ◌∷◌, drop, Option, Some, None, ap, refl}
use Rattle.std.specs.Prelude.{slice_get}
use Rattle.flow_labels.specs.declared.Label.{Label}
use Rattle.flow_labels.specs.declared.Denied.{Denied}
use Rattle.lam_value.specs.declared.values.Value.{Value}
use Rattle.thread_steps.specs.Ops.{breaks, on_thing, tested, barrier}

pub drop_none : {A : Type 0} (s : List A) (d : ℕ) → slice_get s d ≡ None → drop d s ≡ []
drop_none [] zero e = refl
drop_none [] (suc d) e = refl
drop_none (x ∷ s) zero e = cc
drop_none (x ∷ s) (suc d) e = drop_none s d e

pub drop_some : {A : Type 0} (s : List A) (d : ℕ) (v : A) → slice_get s d ≡ Some v → drop d s ≡ v ∷ drop (suc d) s
drop_some [] zero v e = cc
drop_some [] (suc d) v e = cc
drop_some (x ∷ s) zero v e = let f : x ≡ v = cc in ap (λ y. y ∷ s) f
drop_some (x ∷ s) (suc d) v e = drop_some s d v e

-- ---- barriers

pub tested_none : (s : List Value) (d : ℕ) (rule : Label → Option Denied) → slice_get s d ≡ None → tested s d rule ≡ breaks
tested_none s d rule e = ap (λ r. on_thing r (λ n rest. barrier s (rule n.own))) (drop_none s d e)

pub tested_some : (s : List Value) (d : ℕ) (rule : Label → Option Denied) (v : Value) → slice_get s d ≡ Some v → tested s d rule ≡ on_thing (v ∷ drop (suc d) s) (λ n rest. barrier s (rule n.own))
tested_some s d rule v e = ap (λ r. on_thing r (λ n rest. barrier s (rule n.own))) (drop_some s d v e)

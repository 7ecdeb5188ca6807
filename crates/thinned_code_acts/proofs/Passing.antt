-- A barrier that was left out passes.
use Rattle.std.proofs.Common.{◌≡◌, ℕ, zero, suc, List, [], ◌∷◌, false, Option, Some, None, slice_get, drop, refl, sym, ap, ◌∙◌, subst}
use Rattle.std.specs.Prelude.{unwrap_or}
use Rattle.flow_labels.specs.declared.Label.{Label}
use Rattle.lam_value.specs.declared.values.Value.{Value}
use Rattle.lam_value.specs.declared.values.Value.TheVariants.{Obj, Arr}
use Rattle.lam_bytecode.specs.Codes.{CodeTree}
use Rattle.lam_bytecode.specs.declared.unit.CodeUnit.{CodeUnit}
use Rattle.thread_steps.specs.Threads.{Context}
use Rattle.thread_steps.specs.Ops.{gives, on_thing, barrier as passes, Around, effect}
use Rattle.thread_steps.specs.Next.{goes, past, next_by, ops_in, around, next_op, next_in, next_of}
use Rattle.guarded_code.specs.Rounds.{Table, Holds}
use Rattle.guarded_code.specs.declared.known.Access.{Access}
use Rattle.guarded_code.specs.declared.known.Access.TheVariants.{Reading, Writing}
use Rattle.guarded_code.specs.Descriptions.{Description}
use Rattle.guarded_code.specs.Changes.{descriptions}
use Rattle.guarded_code.specs.Breaks.{IsGuarded}
use Rattle.guarded_code.specs.Says.{Pairwise}
use Rattle.guarded_code.proofs.Tables.{none_some, some_inj}
use Rattle.guarded_code.proofs.Breaking.{guarded_means}
use Rattle.thinned_code.specs.Thinned.{staying_by}
use Rattle.thinned_code.proofs.Ops.{barrier}
use Rattle.thinned_code.proofs.Thinning.{Again, again}
use Rattle.thinned_code_acts.specs.Moved.{staying_of, staying_at}
use Rattle.guarded_code_threads.specs.Described.{rule_of, Allows, OperandHolds, found_at, known_in, description_at, FrameAgrees}

-- where a barrier was left out, and what is known there
pub record LeftOut (code : CodeTree) (n at : ℕ) : Type 0 where
  pub unit : CodeUnit
  pub table : Table Description
  pub unit_is : slice_get code.units n ≡ Some unit
  pub found : descriptions code unit ≡ Holds table
  pub again : Again unit.ops table at

pub left_out : (code : CodeTree) → IsGuarded code → (n at : ℕ) → slice_get (staying_at code n) at ≡ Some false → LeftOut code n at
unfolding staying_at
left_out code guarded n at e = by (slice_get code.units n) refl
  where
    by : (o : Option CodeUnit) → slice_get code.units n ≡ o → LeftOut code n at
    by None f = none_some (sym (ap (λ o. slice_get (staying_of code o) at) f) ∙ e)
    by (Some u) f =
        let g = (guarded_means code).0 guarded n u f in
        record {
          unit = u;
          table = g.table;
          unit_is = f;
          found = g.found;
          again = again u.ops g.table at (sym (ap (λ o. slice_get (staying_by u.ops o) at) g.found) ∙ sym (ap (λ o. slice_get (staying_of code o) at) f) ∙ e);
        }

-- ---- the operand
pair_at : {A B : Type 0} (R : A → B → Type 0) (xs : List A) (ys : List B) (i : ℕ) (x : A) → slice_get xs i ≡ Some x → Pairwise R xs ys → (y : B) × (slice_get ys i ≡ Some y) × R x y
pair_at R [] ys i x e r = none_some e
pair_at R (a ∷ xs) [] i x e r = absurd r
pair_at R (a ∷ xs) (b ∷ ys) zero x e r = (b, refl, subst (λ z. R z b) (some_inj e) r.0)
pair_at R (a ∷ xs) (b ∷ ys) (suc i) x e r = pair_at R xs ys i x e r.1

drop_at : {A : Type 0} (xs : List A) (i : ℕ) (x : A) → slice_get xs i ≡ Some x → (rest : List A) × (drop i xs ≡ x ∷ rest)
drop_at [] i x e = none_some e
drop_at (y ∷ xs) zero x e = (xs, ap (λ z. z ∷ xs) (some_inj e))
drop_at (y ∷ xs) (suc i) x e = drop_at xs i x e

thing_passes : (p : Label) (access : Access) (s rest : List Value) (v : Value) → Allows p access v → on_thing (v ∷ rest) (λ n r. passes s (rule_of access p n.own)) ≡ gives s
thing_passes p access s rest (Obj n) h = ap (passes s) h
thing_passes p access s rest (Arr n len) h = ap (passes s) h
thing_passes p access s rest v h = absurd h

barrier_effect : (a : Around) (s : List Value) (access : Access) (depth : ℕ) → effect a s (barrier access depth) ≡ on_thing (drop depth s) (λ n r. passes s (rule_of access a.label n.own))
unfolding effect
barrier_effect a s Reading depth = refl
barrier_effect a s Writing depth = refl

known_is : (code : CodeTree) (n at : ℕ) (u : CodeUnit) (t : Table Description) (d e : Description) → slice_get code.units n ≡ Some u → descriptions code u ≡ Holds t → slice_get t at ≡ Some (Some e) → description_at code n at ≡ Some d → d ≡ e
unfolding description_at
known_is code n at u t d e eu et ee h =
    some_inj (sym h ∙ ap (known_in code at) eu ∙ ap (found_at at) et ∙ ap (λ (o : Option (Option Description)). unwrap_or o None) ee)

-- it goes on past it with the same operands
pub passes_on : (code : CodeTree) → IsGuarded code → (c : Context) → c.inside.fault ≡ None → slice_get (staying_at code c.inside.frame.unit) c.inside.frame.at ≡ Some false → FrameAgrees code c.label c.inside.frame → next_of code c ≡ goes (past c.inside c.inside.frame.stack)
unfolding next_of
passes_on code guarded c fault drops agrees =
    let f = c.inside.frame in
    let l = left_out code guarded f.unit f.at drops in
    let g = l.again in
    let same = known_is code f.unit f.at l.unit l.table agrees.known g.desc l.unit_is l.found g.desc_at agrees.it in
    let v = pair_at (OperandHolds c.label f.locals) agrees.known.stack f.stack g.depth g.operand (ap (λ (d : Description). slice_get d.stack g.depth) same ∙ g.operand_at) agrees.agrees.operands in
    let cut = drop_at f.stack g.depth v.0 v.1 in
    ap (next_in code c) fault
    ∙ ap (next_op code c) (ap (λ (o : Option CodeUnit). slice_get (ops_in o) f.at) l.unit_is ∙ g.op_at)
    ∙ ap (next_by code c.phase c.inside)
    (barrier_effect (around code c) f.stack g.access g.depth
    ∙ ap (λ s. on_thing s (λ n r. passes f.stack (rule_of g.access c.label n.own))) cut.1
    ∙ thing_passes c.label g.access f.stack cut.0 v.0 (v.2.0 g.access g.fact))

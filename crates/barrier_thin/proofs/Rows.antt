-- Which operations of a unit stay.
use Rattle.std.proofs.Common.{◌≡◌, ℕ, zero, suc, ◌<◌, ◌^◌, List, [], ◌∷◌, map, Bool, true, not, Option, Some, None, length, get_or, refl, sym, ap, ap₂, ◌∙◌, subst, arith}
use Rattle.std.specs.List.{AllByRecursion}
use Rattle.lam_bytecode.specs.Codes.{CodeTree, IsUnit}
use Rattle.lam_bytecode.specs.declared.unit.CodeUnit.{CodeUnit}
use Rattle.lam_bytecode.specs.declared.op.Op.{Op}
use Rattle.guarded_code.specs.Rounds.{Table, Found, Holds, Broke}
use Rattle.guarded_code.specs.Descriptions.{Description}
use Rattle.guarded_code.specs.Changes.{descriptions}
use Rattle.thinned_code.specs.Thinned.{stays, staying, staying_by, staying_in}
use Rattle.thinned_code.proofs.Thinning.{staying_long}
use Rattle.code_verify.specs.Redundant.{is_redundant, redundant, redundant_by, redundant_in}

-- ---- an operation stays exactly where it is no redundant barrier
stays_one : (op : Op) (o : Option Description) → not (is_redundant op o) ≡ stays op o
stays_one op None = refl
stays_one op (Some d) = refl

stays_each : (ops : List Op) (t : Table Description) → map not (redundant ops t) ≡ staying ops t
stays_each [] t = refl
stays_each (op ∷ ops) [] = ap (λ r. true ∷ r) (stays_each ops [])
stays_each (op ∷ ops) (o ∷ t) = ap₂ (λ b r. b ∷ r) (stays_one op o) (stays_each ops t)

stays_in : (code : CodeTree) (u : CodeUnit) → map not (redundant_in code u) ≡ staying_in code u
stays_in code u = by (descriptions code u)
  where
    by : (o : Found Description) → map not (redundant_by u.ops o) ≡ staying_by u.ops o
    by (Holds t) = stays_each u.ops t
    by (Broke a) = stays_each u.ops []

pub stays_is : (code : CodeTree) (u : CodeUnit) (old new : List Bool) → old ≡ redundant_in code u → new ≡ map not old → new ≡ staying_in code u
stays_is code u old new e f = f ∙ ap (map not) e ∙ stays_in code u

staying_count : (code : CodeTree) (u : CodeUnit) → length (staying_in code u) ≡ length u.ops
staying_count code u = by (descriptions code u)
  where
    by : (o : Found Description) → length (staying_by u.ops o) ≡ length u.ops
    by (Holds t) = staying_long u.ops t
    by (Broke a) = staying_long u.ops []

pub stays_short : (code : CodeTree) (u : CodeUnit) (old new : List Bool) → length u.ops < 2 ^ 32 → old ≡ redundant_in code u → new ≡ map not old → length new < 2 ^ 32
stays_short code u old new lt e f =
    let same = ap length (stays_is code u old new e f) ∙ staying_count code u in omega (arith, lt, same)

-- ---- each unit of a code is short enough to be counted
each_at : (us : List CodeUnit) (n : ℕ) (u : CodeUnit) → AllByRecursion IsUnit us → n < length us → u ≡ get_or us n u → IsUnit u
each_at [] n u h lt e = absurd (omega (arith, lt))
each_at (v ∷ us) zero u h lt e = subst IsUnit (sym e) h.0
each_at (v ∷ us) (suc n) u h lt e = each_at us n u h.1 (omega (arith, lt)) e

pub unit_short : (us : List CodeUnit) (n : ℕ) (u : CodeUnit) → AllByRecursion IsUnit us → n < length us → u ≡ get_or us n u → length u.ops < 2 ^ 32
unit_short us n u h lt e = (each_at us n u h lt e).ops

-- What units with their operations thinned are, looked up by number.
use Rattle.std.proofs.Common.{◌≡◌, ℕ, ◌+◌, List, [], ◌∷◌, map, Bool, true, false, if◌then◌else◌, Option, Some, None, slice_get, option_map, refl, sym, ap, ap₂, ◌∙◌}
use Rattle.std.specs.Prelude.{is_some}
use Rattle.std.proofs.lemmas.Option.{slice_get-map}
use Rattle.lam_bytecode.specs.Codes.{CodeTree, given}
use Rattle.lam_bytecode.specs.declared.unit.CodeUnit.{CodeUnit}
use Rattle.lam_bytecode.specs.declared.unit.UnitKind.{UnitKind}
use Rattle.lam_bytecode.specs.declared.unit.UnitKind.TheVariants.{Function, Region}
use Rattle.guarded_code.specs.Ops.{function_takes, is_region, UnitAt, region_from, region_in, captures_of, region_takes}
use Rattle.guarded_code.specs.Changes.{kind_of_result, result_kind}
use Rattle.thinned_code.specs.Thinned.{moved_kind, thin_unit, thinned_unit}

-- ---- one unit
takes_unit : (ks : List Bool) (kind : UnitKind) (u : CodeUnit) → u.kind ≡ kind → function_takes (Some (thin_unit ks u)) ≡ function_takes (Some u)
takes_unit ks (Function name takes gives_int) u e =
    ap (λ (k : UnitKind). function_takes (Some (record { kind = moved_kind ks k; locals = u.locals; ops = (thin_unit ks u).ops }))) e
    ∙ sym (ap (λ (k : UnitKind). function_takes (Some (record { kind = k; locals = u.locals; ops = u.ops }))) e)
takes_unit ks (Region region captures catch_at) u e =
    ap (λ (k : UnitKind). function_takes (Some (record { kind = moved_kind ks k; locals = u.locals; ops = (thin_unit ks u).ops }))) e
    ∙ sym (ap (λ (k : UnitKind). function_takes (Some (record { kind = k; locals = u.locals; ops = u.ops }))) e)

result_kept : (ks : List Bool) (kind : UnitKind) → kind_of_result (moved_kind ks kind) ≡ kind_of_result kind
result_kept ks (Function name takes gives_int) = refl
result_kept ks (Region region captures catch_at) = refl

region_kept : (ks : List Bool) (r : ℕ) (kind : UnitKind) → is_region r (moved_kind ks kind) ≡ is_region r kind
region_kept ks r (Function name takes gives_int) = refl
region_kept ks r (Region region captures catch_at) = refl

captures_kept : (ks : List Bool) (kind : UnitKind) → captures_of (moved_kind ks kind) ≡ captures_of kind
captures_kept ks (Function name takes gives_int) = refl
captures_kept ks (Region region captures catch_at) = refl

pub given_kept : (ks : List Bool) (kind : UnitKind) → given (moved_kind ks kind) ≡ given kind
given_kept ks (Function name takes gives_int) = refl
given_kept ks (Region region captures catch_at) = refl

-- ---- a unit by its number
module _ (code : CodeTree) where
  abbrev pub thin_units : List CodeUnit → List CodeUnit
  thin_units us = map (thinned_unit code) us

  pub unit_at : (us : List CodeUnit) (n : ℕ) → slice_get (thin_units us) n ≡ option_map (thinned_unit code) (slice_get us n)
  unit_at us n = slice_get-map (thinned_unit code) us n

  takes_of : (o : Option CodeUnit) → function_takes (option_map (thinned_unit code) o) ≡ function_takes o
  takes_of None = refl
  takes_of (Some u) = takes_unit _ u.kind u refl

  pub same_takes : (us : List CodeUnit) (n : ℕ) → function_takes (slice_get (thin_units us) n) ≡ function_takes (slice_get us n)
  same_takes us n = ap function_takes (unit_at us n) ∙ takes_of (slice_get us n)

  result_of : (o : Option CodeUnit) → result_kind (option_map (thinned_unit code) o) ≡ result_kind o
  result_of None = refl
  result_of (Some u) = result_kept _ u.kind

  pub same_result : (us : List CodeUnit) (n : ℕ) → result_kind (slice_get (thin_units us) n) ≡ result_kind (slice_get us n)
  same_result us n = ap result_kind (unit_at us n) ∙ result_of (slice_get us n)

  -- ---- a region's unit by the region's number
  abbrev pub thinned_at : UnitAt → UnitAt
  thinned_at u = record { number = u.number; it = thinned_unit code u.it }

  region_if : (b : Bool) (n : ℕ) (u : CodeUnit) (o : Option UnitAt) → (if b then Some (record { number = n; it = thinned_unit code u }) else option_map thinned_at o) ≡ option_map thinned_at (if b then Some (record { number = n; it = u }) else o)
  region_if true n u o = refl
  region_if false n u o = refl

  same_from : (n r : ℕ) (us : List CodeUnit) → region_from n r (thin_units us) ≡ option_map thinned_at (region_from n r us)
  same_from n r [] = refl
  same_from n r (u ∷ us) =
      ap₂ (λ (b : Bool) (o : Option UnitAt). if b then Some (record { number = n; it = thinned_unit code u }) else o) (region_kept _ r u.kind) (same_from (n + 1) r us)
      ∙ region_if (is_region r u.kind) n u (region_from (n + 1) r us)

  pub same_region : (r : ℕ) (us : List CodeUnit) → region_in r (thin_units us) ≡ option_map thinned_at (region_in r us)
  same_region r us = same_from 0 r us

  captures_at : (o : Option UnitAt) → region_takes (option_map thinned_at o) ≡ region_takes o
  captures_at None = refl
  captures_at (Some u) = ap (λ n. Some n) (captures_kept _ u.it.kind)

  pub same_captures : (r : ℕ) (us : List CodeUnit) → region_takes (region_in r (thin_units us)) ≡ region_takes (region_in r us)
  same_captures r us = ap region_takes (same_region r us) ∙ captures_at (region_in r us)

  there : (o : Option UnitAt) → is_some (option_map thinned_at o) ≡ is_some o
  there None = refl
  there (Some u) = refl

  pub same_there : (r : ℕ) (us : List CodeUnit) → is_some (region_in r (thin_units us)) ≡ is_some (region_in r us)
  same_there r us = ap is_some (same_region r us) ∙ there (region_in r us)

-- What is proved of thinned code.
use Rattle.std.proofs.Common.{◌≡◌, ℕ, ◌+◌, List, [], ◌∷◌, map, Bool, if◌then◌else◌, Option, Some, None, slice_get, option_map, refl, sym, ap, ap₂, ◌∙◌, subst, arith}
use Rattle.std.specs.List.{AllByRecursion}
use Rattle.std.proofs.lemmas.List.{length-map}
use Rattle.lam_bytecode.specs.Codes.{CodeTree, IsUnit, IsCode, number_before, region_numbers, AreCounted, has_name, named_from, unit_named}
use Rattle.lam_bytecode.specs.declared.unit.CodeUnit.{CodeUnit}
use Rattle.lam_bytecode.specs.declared.unit.UnitKind.{UnitKind}
use Rattle.lam_bytecode.specs.declared.unit.UnitKind.TheVariants.{Function, Region}
use Rattle.guarded_code.specs.Rounds.{Table, Holds}
use Rattle.guarded_code.specs.Descriptions.{Description}
use Rattle.guarded_code.specs.Changes.{descriptions}
use Rattle.guarded_code.specs.Breaks.{CodeBreak, first_code_break, IsGuarded}
use Rattle.guarded_code.specs.Facts.{IsUnitGuarded}
use Rattle.guarded_code.proofs.Breaking.{guarded_means}
use Rattle.thinned_code.specs.Thinned.{staying, staying_by, staying_in, moved_kind, moved_op, thin_unit, thinned_unit, thin_code, thinned_unless, thinned}
use Rattle.thinned_code.specs.Facts.{StaysGuarded, StaysCode, IsSameKind, IsThinner, HasThinnerUnits, KeepsUnits, KeepsNames}
use Rattle.thinned_code.proofs.Sifting.{sifted_fewer}
use Rattle.thinned_code.proofs.Units.{given_kept, thin_units, unit_at}
use Rattle.thinned_code.proofs.Thinning.{map_some}
use Rattle.thinned_code.proofs.Guarding.{thin_unit_guarded}

-- ---- guarded code
pub thin_is : (code : CodeTree) → IsGuarded code → thinned code ≡ thin_code code
unfolding thinned
thin_is code e = ap (λ b. thinned_unless b code) e

pub unit_is : (code : CodeTree) (u : CodeUnit) (t : Table Description) → descriptions code u ≡ Holds t → thinned_unit code u ≡ thin_unit (staying u.ops t) u
unit_is code u t e = ap (λ o. thin_unit (staying_by u.ops o) u) e

thin_guarded : (code : CodeTree) → IsGuarded code → IsGuarded (thin_code code)
thin_guarded code guarded =
    (guarded_means (thin_code code)).1
    (λ n v at.
    let old = map_some (thinned_unit code) (slice_get code.units n) v (sym (unit_at code code.units n) ∙ at) in
    let g = (guarded_means code).0 guarded n old.0 old.1 in
    subst (λ x. IsUnitGuarded (thin_code code) x) (sym (unit_is code old.0 g.table g.found) ∙ old.2) (thin_unit_guarded code old.0 g))

pub stays_guarded : StaysGuarded
stays_guarded code guarded = subst IsGuarded (sym (thin_is code guarded)) (thin_guarded code guarded)

-- ---- in both cases
by_cases : (P : CodeTree → Type 0) (code : CodeTree) → P (thin_code code) → P code → P (thinned code)
unfolding thinned
by_cases P code thin same = by (first_code_break code)
  where
    by : (b : Option CodeBreak) → P (thinned_unless b code)
    by None = thin
    by (Some b) = same

-- ---- units
same_kind : (kind : UnitKind) → IsSameKind kind kind
same_kind (Function name takes gives_int) = refl
same_kind (Region region captures catch_at) = (catch_at, refl)

thin_kind : (ks : List Bool) (kind : UnitKind) → IsSameKind kind (moved_kind ks kind)
thin_kind ks (Function name takes gives_int) = refl
thin_kind ks (Region region captures catch_at) = (_, refl)

thinner : (ks : List Bool) (u : CodeUnit) → IsThinner u (thin_unit ks u)
thinner ks u = record {
  kind = thin_kind ks u.kind;
  locals = refl;
  fewer = let few = sifted_fewer ks (map (moved_op ks) u.ops) in omega (arith, few, length-map u.ops (moved_op ks));
}

pub keeps_units : KeepsUnits
keeps_units code =
    by_cases (λ c. HasThinnerUnits code c) code
    (record {
      count = length-map code.units (thinned_unit code);
      each = λ n u at. (thinned_unit code u, unit_at code code.units n ∙ ap (option_map (thinned_unit code)) at, thinner (staying_in code u) u);
      constants = refl;
      classes = refl;
    })
    (record {
      count = refl;
      each = λ n u at. (u, at, record { kind = same_kind u.kind; locals = refl; fewer = omega arith });
      constants = refl;
      classes = refl;
    })

-- ---- names
name_kept : (ks : List Bool) (name : List ℕ) (kind : UnitKind) → has_name name (moved_kind ks kind) ≡ has_name name kind
name_kept ks name (Function own takes gives_int) = refl
name_kept ks name (Region region captures catch_at) = refl

named_same : (code : CodeTree) (n : ℕ) (name : List ℕ) (us : List CodeUnit) → named_from n name (thin_units code us) ≡ named_from n name us
named_same code n name [] = refl
named_same code n name (u ∷ us) =
    ap₂ (λ b (o : Option ℕ). if b then Some n else o) (name_kept (staying_in code u) name u.kind) (named_same code (n + 1) name us)

pub keeps_names : KeepsNames
keeps_names code name =
    by_cases (λ c. unit_named name c.units ≡ unit_named name code.units) code (named_same code 0 name code.units) refl

-- ---- what every code keeps
number_kept : (ks : List Bool) (kind : UnitKind) (ns : List ℕ) → number_before (moved_kind ks kind) ns ≡ number_before kind ns
number_kept ks (Function name takes gives_int) ns = refl
number_kept ks (Region region captures catch_at) ns = refl

numbers_kept : (code : CodeTree) (us : List CodeUnit) → region_numbers (thin_units code us) ≡ region_numbers us
numbers_kept code [] = refl
numbers_kept code (u ∷ us) =
    number_kept (staying_in code u) u.kind (region_numbers (thin_units code us)) ∙ ap (number_before u.kind) (numbers_kept code us)

unit_kept : (ks : List Bool) (u : CodeUnit) → IsUnit u → IsUnit (thin_unit ks u)
unit_kept ks u h = record {
  locals = let same = given_kept ks u.kind in omega (arith, same, h.locals);
  ops = let few = sifted_fewer ks (map (moved_op ks) u.ops) in omega (arith, few, length-map u.ops (moved_op ks), h.ops);
}

units_kept : (code : CodeTree) (us : List CodeUnit) → AllByRecursion IsUnit us → AllByRecursion IsUnit (thin_units code us)
units_kept code [] h = h
units_kept code (u ∷ us) h = (unit_kept (staying_in code u) u h.0, units_kept code us h.1)

thin_is_code : (code : CodeTree) → IsCode code → IsCode (thin_code code)
thin_is_code code h = record {
  units = let same = length-map code.units (thinned_unit code) in omega (arith, same, h.units);
  constants = h.constants;
  classes = h.classes;
  each_unit = units_kept code code.units h.each_unit;
  each_constant = h.each_constant;
  regions = subst (AreCounted 0) (sym (numbers_kept code code.units)) h.regions;
}

pub stays_code : StaysCode
stays_code code h = by_cases (λ c. IsCode c) code (thin_is_code code h) h

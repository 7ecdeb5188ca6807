-- Thinned code has the entries of the code.
use Rattle.std.proofs.Common.{◌≡◌, ℕ, Bool, true, List, Option, Some, None, slice_get, option_and_then, refl, sym, ap, ◌∙◌, subst, arith}
use Rattle.std.proofs.lemmas.Option.{slice_get_within, slice_get-get_or, same_Some}
use Rattle.flow_labels.specs.TwoLists.{Text}
use Rattle.lam_bytecode.specs.Codes.{CodeTree, unit_named}
use Rattle.lam_bytecode.specs.declared.unit.ArgKind.{ArgKind}
use Rattle.lam_bytecode.specs.declared.unit.CodeUnit.{CodeUnit}
use Rattle.lam_bytecode.specs.declared.unit.UnitKind.{UnitKind}
use Rattle.lam_bytecode.specs.declared.unit.UnitKind.TheVariants.{Function, Region}
use Rattle.thinned_code.specs.Thinned.{thinned}
use Rattle.thinned_code.specs.Facts.{IsSameKind, IsThinner, HasThinnerUnits, KeepsUnits, KeepsNames}
use Rattle.world_doc_terms.specs.Entries.{Entry, entry_by}
use Rattle.world_doc_laws.specs.Entries.{ThinnedEntries, ThinnedStarts}

-- ---- a function is the same function

same_function : (k l : UnitKind) (name : Text) (takes : List ArgKind) (gives_int : Bool) → IsSameKind k l → l ≡ Function name takes gives_int → k ≡ Function name takes gives_int
same_function (Function own ts b) l name takes gives_int s e = sym s ∙ e
same_function (Region region captures at) l name takes gives_int s e = absurd (let z = sym s.1 ∙ e in cc)

same_entry : (n : ℕ) (k l : UnitKind) → IsSameKind k l → entry_by n l ≡ entry_by n k
same_entry n (Function own takes gives_int) l s = ap (entry_by n) s
same_entry n (Region region captures at) l s = ap (entry_by n) s.1

-- ---- a unit by its number

module _ (code thin : CodeTree) (h : HasThinnerUnits code thin) where
  -- the unit that another was made of
  record Origin (n : ℕ) (v : CodeUnit) : Type 0 where
    unit : CodeUnit
    there : slice_get code.units n ≡ Some unit
    thinner : IsThinner unit v

  past : (n : ℕ) → slice_get code.units n ≡ None → slice_get thin.units n ≡ None
  past n e = by (slice_get thin.units n) refl
    where
      by : (o : Option CodeUnit) → slice_get thin.units n ≡ o → o ≡ None
      by None f = refl
      by (Some v) f = absurd (let within = slice_get_within thin.units n v f in let same = h.count in let found = slice_get-get_or code.units n v (omega (arith, within, same)) in let z = sym e ∙ found in cc)

  origin : (n : ℕ) (v : CodeUnit) → slice_get thin.units n ≡ Some v → Origin n v
  origin n v e = by (slice_get code.units n) refl
    where
      by : (o : Option CodeUnit) → slice_get code.units n ≡ o → Origin n v
      by None f = absurd (let z = sym (past n f) ∙ e in cc)
      by (Some u) f = let x = h.each n u f in record { unit = u; there = f; thinner = subst (IsThinner u) (same_Some x.0 v (sym x.1 ∙ e)) x.2 }

  abbrev entry_of : Option CodeUnit → ℕ → Option Entry
  entry_of o n = option_and_then (λ (u : CodeUnit). entry_by n u.kind) o

  entry_at : (n : ℕ) → entry_of (slice_get thin.units n) n ≡ entry_of (slice_get code.units n) n
  entry_at n = by (slice_get code.units n) refl
    where
      by : (o : Option CodeUnit) → slice_get code.units n ≡ o → entry_of (slice_get thin.units n) n ≡ entry_of o n
      by None f = ap (λ o. entry_of o n) (past n f)
      by (Some u) f = let x = h.each n u f in ap (λ o. entry_of o n) x.1 ∙ same_entry n u.kind x.0.kind x.2.kind

  entry_in : (o : Option ℕ) → option_and_then (λ n. entry_of (slice_get thin.units n) n) o ≡ option_and_then (λ n. entry_of (slice_get code.units n) n) o
  entry_in None = refl
  entry_in (Some n) = entry_at n

-- ---- entries

pub thinned_entries : KeepsUnits → (code : CodeTree) → ThinnedEntries code
thinned_entries units code r functions u it name takes e is =
    let o = origin code (thinned code) (units code) u it e in
    functions u o.unit name takes o.there (same_function o.unit.kind it.kind name takes true o.thinner.kind is)

pub thinned_starts : KeepsUnits → KeepsNames → (code : CodeTree) → ThinnedStarts code
thinned_starts units names code name =
    ap (option_and_then (λ n. option_and_then (λ (u : CodeUnit). entry_by n u.kind) (slice_get (thinned code).units n))) (names code name)
    ∙ entry_in code (thinned code) (units code) (unit_named name code.units)

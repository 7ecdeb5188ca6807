-- The units of a program's code: its functions, and behind them its regions.
use Rattle.std.proofs.Common.{◌≡◌, ℕ, zero, suc, Bool, true, List, [], ◌∷◌, ◌++◌, map, Option, Some, None, refl, sym, ap, ◌∙◌}
use Rattle.std.specs.Prelude.{slice_get}
use Rattle.std.specs.List.{AllByRecursion}
use Rattle.std.proofs.lemmas.Option.{same_Some}
use Rattle.flow_labels.specs.TwoLists.{Text}
use Rattle.lam_value.specs.declared.values.Value.{Value}
use Rattle.lam_builtins.specs.Types.{int}
use Rattle.lam_bytecode.specs.declared.unit.ArgKind.{ArgKind}
use Rattle.lam_bytecode.specs.declared.unit.CodeUnit.{CodeUnit}
use Rattle.lam_bytecode.specs.declared.unit.UnitKind.TheVariants.{Function, Region}
use Rattle.lam_resolve_tree.specs.Tree.{ResolvedType, Statement, if_block, while_block, sync_block, region_block, Block, block_end, block_more, OtherBlock, no_other, other_block, ResolvedFunction, ResolvedTree}
use Rattle.lam_meaning.specs.Scheme.{Draft, arg_kind, is_int, function_draft, regions_of, regions_in, regions_in_other, all_regions, drafts, all_constants, unit_of, scheme}
use Rattle.world_doc_laws.specs.Entries.{SchemeEntries}

abbrev IsRegion : Draft → Type 0
IsRegion d = (n : ℕ) × (captures : ℕ) × (at : ℕ) × (d.kind ≡ Region n captures at)

abbrev AreRegions : List Draft → Type 0
AreRegions ds = AllByRecursion IsRegion ds

both : (a b : List Draft) → AreRegions a → AreRegions b → AreRegions (a ++ b)
both [] b h k = k
both (d ∷ a) b h k = (h.0, both a b h.1 k)

mutual
  of_statement : (s : Statement) → AreRegions (regions_of s)
  of_statement (if_block e body other) = both (regions_in body) (regions_in_other other) (of_block body) (of_other other)
  of_statement (while_block e body) = of_block body
  of_statement (sync_block x e body) = of_block body
  of_statement (region_block n l c from slots body slot handler) = ((n, _, _, refl), both (regions_in body) (regions_in handler) (of_block body) (of_block handler))
  of_statement s = tt

  of_block : (b : Block) → AreRegions (regions_in b)
  of_block block_end = tt
  of_block (block_more s rest) = both (regions_of s) (regions_in rest) (of_statement s) (of_block rest)

  of_other : (b : OtherBlock) → AreRegions (regions_in_other b)
  of_other no_other = tt
  of_other (other_block body) = of_block body

of_functions : (fs : List ResolvedFunction) → AreRegions (all_regions fs)
of_functions [] = tt
of_functions (f ∷ fs) = both (regions_in f.body) (all_regions fs) (of_block f.body) (of_functions fs)

is_number : (t : Option ResolvedType) → is_int t ≡ true → t ≡ Some int
is_number None e = absurd cc
is_number (Some int) e = refl
is_number (Some t) e = absurd cc

same_function : (a b : Text) (ks ls : List ArgKind) (x y : Bool) → Function a ks x ≡ Function b ls y → (ks ≡ ls) × (x ≡ y)
same_function a b ks ls x y e = (cc, cc)

module _ (vs : List Value) (name : Text) (takes : List ArgKind) (it : CodeUnit) (kind : it.kind ≡ Function name takes true) where
  no_region : (ds : List Draft) → AreRegions ds → (u : ℕ) → slice_get (map (unit_of vs) ds) u ≡ Some it → ⊥
  no_region [] h u e = cc
  no_region (d ∷ ds) h zero e =
      let same = ap (λ (x : CodeUnit). x.kind) (same_Some (unit_of vs d) it e) in
      let region = h.0.3 in
      let z = sym region ∙ same ∙ kind in
      cc
  no_region (d ∷ ds) h (suc u) e = no_region ds h.1 u e

  function_at : (fs : List ResolvedFunction) (ds : List Draft) → AreRegions ds → (u : ℕ) → slice_get (map (unit_of vs) (map function_draft fs ++ ds)) u ≡ Some it → (fn : ResolvedFunction) × (slice_get fs u ≡ Some fn) × (fn.result ≡ Some int) × (takes ≡ map arg_kind fn.params)
  function_at [] ds h u e = absurd (no_region ds h u e)
  function_at (f ∷ fs) ds h zero e =
      let same = ap (λ (x : CodeUnit). x.kind) (same_Some (unit_of vs (function_draft f)) it e) ∙ kind in
      let parts = same_function f.name name (map arg_kind f.params) takes (is_int f.result) true same in
      (f, refl, is_number f.result parts.1, sym parts.0)
  function_at (f ∷ fs) ds h (suc u) e = function_at fs ds h u e

pub int_functions : (r : ResolvedTree) → SchemeEntries r
unfolding scheme
int_functions r u it name takes e kind =
    let f = function_at (all_constants [] (drafts r)) name takes it kind r.functions (all_regions r.functions) (of_functions r.functions) u e in
    record { declared = f.0; found = f.1; result = f.2; kinds = f.3 }

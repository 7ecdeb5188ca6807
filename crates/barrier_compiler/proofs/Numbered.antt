-- The regions among the units are numbered from 0.
use Rattle.std.proofs.Common.{◌≡◌, ℕ, zero, suc, List, [], ◌∷◌, ◌++◌, length, map, refl, sym, ap, ◌∙◌, subst}
use Rattle.lam_value.specs.declared.values.Value.{Value}
use Rattle.lam_resolve_tree.specs.Tree.{Statement, let_slot, if_block, while_block, return_value, throw_value, sync_block, region_block, do_value, set_local, set_field, set_element, Block, block_end, block_more, OtherBlock, no_other, other_block, ResolvedFunction, ResolvedTree}
use Rattle.lam_resolve_tree.specs.Regions as tree
use Rattle.lam_resolve_tree.specs.Regions.{count_up, function_regions, AreNumbered}
use Rattle.lam_bytecode.specs.declared.unit.UnitKind.{UnitKind}
use Rattle.lam_bytecode.specs.declared.unit.UnitKind.TheVariants.{Function, Region}
use Rattle.lam_bytecode.specs.Codes.{number_before, region_numbers, AreCounted}
use Rattle.lam_meaning.specs.Scheme.{Draft, function_draft, regions_of, regions_in, regions_in_other, all_regions, drafts, unit_of}

abbrev numbers : List Draft → List ℕ
numbers [] = []
numbers (d ∷ ds) = number_before d.kind (numbers ds)

before-append : (k : UnitKind) (ns ms : List ℕ) → number_before k (ns ++ ms) ≡ number_before k ns ++ ms
before-append (Function name takes gives_int) ns ms = refl
before-append (Region region captures catch_at) ns ms = refl

numbers-append : (ds es : List Draft) → numbers (ds ++ es) ≡ numbers ds ++ numbers es
numbers-append [] es = refl
numbers-append (d ∷ ds) es = ap (number_before d.kind) (numbers-append ds es) ∙ before-append d.kind (numbers ds) (numbers es)

unit_numbers : (vs : List Value) (ds : List Draft) → region_numbers (map (unit_of vs) ds) ≡ numbers ds
unit_numbers vs [] = refl
unit_numbers vs (d ∷ ds) = ap (number_before d.kind) (unit_numbers vs ds)

mutual
  numbers_of : (s : Statement) → numbers (regions_of s) ≡ tree.regions_in s
  numbers_of (let_slot x e) = refl
  numbers_of (if_block e body other) = numbers-append (regions_in body) (regions_in_other other) ∙ ap (λ l. l ++ numbers (regions_in_other other)) (numbers_in body) ∙ ap (λ l. tree.regions_of body ++ l) (numbers_other other)
  numbers_of (while_block e body) = numbers_in body
  numbers_of (return_value e) = refl
  numbers_of (throw_value e) = refl
  numbers_of (sync_block x e body) = numbers_in body
  numbers_of (region_block m l c from own body x handler) =
      ap (λ l. m ∷ l) (numbers-append (regions_in body) (regions_in handler) ∙ ap (λ l. l ++ numbers (regions_in handler)) (numbers_in body) ∙ ap (λ l. tree.regions_of body ++ l) (numbers_in handler))
  numbers_of (do_value e) = refl
  numbers_of (set_local x e) = refl
  numbers_of (set_field e c f t v) = refl
  numbers_of (set_element e i t v) = refl

  numbers_in : (b : Block) → numbers (regions_in b) ≡ tree.regions_of b
  numbers_in block_end = refl
  numbers_in (block_more s rest) = numbers-append (regions_of s) (regions_in rest) ∙ ap (λ l. l ++ numbers (regions_in rest)) (numbers_of s) ∙ ap (λ l. tree.regions_in s ++ l) (numbers_in rest)

  numbers_other : (o : OtherBlock) → numbers (regions_in_other o) ≡ tree.regions_or o
  numbers_other no_other = refl
  numbers_other (other_block body) = numbers_in body

function_numbers : (fs : List ResolvedFunction) → numbers (map function_draft fs) ≡ []
function_numbers [] = refl
function_numbers (f ∷ fs) = function_numbers fs

all_numbers : (fs : List ResolvedFunction) → numbers (all_regions fs) ≡ function_regions fs
all_numbers [] = refl
all_numbers (f ∷ fs) = numbers-append (regions_in f.body) (all_regions fs) ∙ ap (λ l. l ++ numbers (all_regions fs)) (numbers_in f.body) ∙ ap (λ l. tree.regions_of f.body ++ l) (all_numbers fs)

counted : (n k : ℕ) → AreCounted n (count_up n k)
counted n zero = tt
counted n (suc k) = (refl, counted (suc n) k)

pub are_counted : (r : ResolvedTree) (vs : List Value) → AreNumbered r → AreCounted 0 (region_numbers (map (unit_of vs) (drafts r)))
are_counted r vs h =
    let e : region_numbers (map (unit_of vs) (drafts r)) ≡ tree.region_numbers r =
    unit_numbers vs (drafts r) ∙ numbers-append (map function_draft r.functions) (all_regions r.functions) ∙ ap (λ l. l ++ numbers (all_regions r.functions)) (function_numbers r.functions) ∙ all_numbers r.functions in
    subst (λ (l : List ℕ). AreCounted 0 l) (sym (e ∙ h)) (counted 0 (length (tree.region_numbers r)))

-- Where the units of a program's functions and regions stand in the scheme's code.
use Rattle.std.proofs.Common.{◌≡◌, ℕ, zero, suc, ◌+◌, true, false, List, [], ◌∷◌, ◌++◌, length, map, Some, refl, sym, ap, ◌∙◌, subst, arith}
use Rattle.std.proofs.lemmas.Bool.Decides.{nat_tests}
use Rattle.std.proofs.lemmas.Option.{same_Some}
use Rattle.std.specs.Prelude.{if◌then◌else◌, nat_eq, slice_get}
use Rattle.lam_value.specs.declared.values.Value.{Value}
use Rattle.lam_bytecode.specs.declared.unit.UnitKind.{UnitKind}
use Rattle.lam_bytecode.specs.declared.unit.UnitKind.TheVariants.{Function, Region}
use Rattle.thread_steps.specs.Ops.{is_region, region_from, region_in}
use Rattle.lam_resolve_tree.specs.Tree.{Statement, if_block, while_block, sync_block, region_block, Block, block_end, block_more, OtherBlock, no_other, other_block, ResolvedFunction, ResolvedTree}
use Rattle.lam_resolve_tree.specs.Regions as numbers
use Rattle.lam_resolve_tree.specs.Regions.{count_up, AreNumbered}
use Rattle.lam_meaning_typed.specs.Scheme.{Draft, function_draft, region_draft, regions_of, regions_in, regions_in_other, all_regions, drafts, all_constants, unit_of, scheme}

-- the constants of the code
abbrev pub constants_of : ResolvedTree → List Value
constants_of r = all_constants [] (drafts r)

-- a region's unit, by its number
pub record Placed (r : ResolvedTree) (number : ℕ) (d : Draft) : Type 0 where
  pub unit : ℕ
  pub found : region_in number (scheme r).units ≡ Some (record { number = unit; it = unit_of (constants_of r) d })
  pub there : slice_get (scheme r).units unit ≡ Some (unit_of (constants_of r) d)
  pub drafted : slice_get (drafts r) unit ≡ Some d

-- the regions of a statement have their units in the code
abbrev mutual
  pub IsPlaced : ResolvedTree → Statement → Type 0
  IsPlaced r (if_block e body other) = BlockPlaced r body × OtherPlaced r other
  IsPlaced r (while_block e body) = BlockPlaced r body
  IsPlaced r (sync_block x e body) = BlockPlaced r body
  IsPlaced r (region_block number l c from slots body slot handler) = Placed r number (region_draft number from slots body slot handler) × BlockPlaced r body × BlockPlaced r handler
  IsPlaced r s = Unit {0}

  pub BlockPlaced : ResolvedTree → Block → Type 0
  BlockPlaced r block_end = Unit {0}
  BlockPlaced r (block_more s rest) = IsPlaced r s × BlockPlaced r rest

  pub OtherPlaced : ResolvedTree → OtherBlock → Type 0
  OtherPlaced r no_other = Unit {0}
  OtherPlaced r (other_block body) = BlockPlaced r body

-- ---- functions

draft_at : (vs : List Value) (fs : List ResolvedFunction) (more : List Draft) (f : ℕ) (fn : ResolvedFunction) → slice_get fs f ≡ Some fn → slice_get (map (unit_of vs) (map function_draft fs ++ more)) f ≡ Some (unit_of vs (function_draft fn))
draft_at vs [] more f fn e = absurd cc
draft_at vs (g ∷ fs) more zero fn e = ap (λ (x : ResolvedFunction). Some (unit_of vs (function_draft x))) (same_Some g fn e)
draft_at vs (g ∷ fs) more (suc f) fn e = draft_at vs fs more f fn e

draft_first : (fs : List ResolvedFunction) (more : List Draft) (f : ℕ) (fn : ResolvedFunction) → slice_get fs f ≡ Some fn → slice_get (map function_draft fs ++ more) f ≡ Some (function_draft fn)
draft_first [] more f fn e = absurd cc
draft_first (g ∷ fs) more zero fn e = ap (λ (x : ResolvedFunction). Some (function_draft x)) (same_Some g fn e)
draft_first (g ∷ fs) more (suc f) fn e = draft_first fs more f fn e

pub function_drafted : (r : ResolvedTree) (f : ℕ) (fn : ResolvedFunction) → slice_get r.functions f ≡ Some fn → slice_get (drafts r) f ≡ Some (function_draft fn)
function_drafted r f fn e = draft_first r.functions (all_regions r.functions) f fn e

pub function_unit : (r : ResolvedTree) (f : ℕ) (fn : ResolvedFunction) → slice_get r.functions f ≡ Some fn → slice_get (scheme r).units f ≡ Some (unit_of (constants_of r) (function_draft fn))
unfolding scheme
function_unit r f fn e = draft_at (constants_of r) r.functions (all_regions r.functions) f fn e

-- ---- numbers of drafts

abbrev IsNumber : ℕ → UnitKind → Type 0
IsNumber n (Function name takes gives_int) = ⊥
IsNumber n (Region region captures catch_at) = region ≡ n

abbrev AreCounted : ℕ → List Draft → Type 0
AreCounted n [] = Unit {0}
AreCounted n (d ∷ ds) = IsNumber n d.kind × AreCounted (suc n) ds

-- the drafts have these numbers
abbrev HaveNumbers : List Draft → List ℕ → Type 0
HaveNumbers [] [] = Unit {0}
HaveNumbers [] (n ∷ ns) = ⊥
HaveNumbers (d ∷ ds) [] = ⊥
HaveNumbers (d ∷ ds) (n ∷ ns) = IsNumber n d.kind × HaveNumbers ds ns

have_both : (ds es : List Draft) (ns ms : List ℕ) → HaveNumbers ds ns → HaveNumbers es ms → HaveNumbers (ds ++ es) (ns ++ ms)
have_both [] es [] ms h k = k
have_both [] es (n ∷ ns) ms h k = absurd h
have_both (d ∷ ds) es [] ms h k = absurd h
have_both (d ∷ ds) es (n ∷ ns) ms h k = (h.0, have_both ds es ns ms h.1 k)

mutual
  numbers_of : (s : Statement) → HaveNumbers (regions_of s) (numbers.regions_in s)
  numbers_of (if_block e body other) = have_both (regions_in body) (regions_in_other other) (numbers.regions_of body) (numbers.regions_or other) (numbers_in body) (numbers_or other)
  numbers_of (while_block e body) = numbers_in body
  numbers_of (sync_block x e body) = numbers_in body
  numbers_of (region_block m l c from own body n handler) = (refl, have_both (regions_in body) (regions_in handler) (numbers.regions_of body) (numbers.regions_of handler) (numbers_in body) (numbers_in handler))
  numbers_of s = tt

  numbers_in : (b : Block) → HaveNumbers (regions_in b) (numbers.regions_of b)
  numbers_in block_end = tt
  numbers_in (block_more s rest) = have_both (regions_of s) (regions_in rest) (numbers.regions_in s) (numbers.regions_of rest) (numbers_of s) (numbers_in rest)

  numbers_or : (o : OtherBlock) → HaveNumbers (regions_in_other o) (numbers.regions_or o)
  numbers_or no_other = tt
  numbers_or (other_block body) = numbers_in body

all_numbers : (fs : List ResolvedFunction) → HaveNumbers (all_regions fs) (numbers.function_regions fs)
all_numbers [] = tt
all_numbers (f ∷ fs) = have_both (regions_in f.body) (all_regions fs) (numbers.regions_of f.body) (numbers.function_regions fs) (numbers_in f.body) (all_numbers fs)

counted_by : (ds : List Draft) (n k : ℕ) → HaveNumbers ds (count_up n k) → AreCounted n ds
counted_by [] n k h = tt
counted_by (d ∷ ds) n zero h = absurd h
counted_by (d ∷ ds) n (suc k) h = (h.0, counted_by ds (suc n) k h.1)

counted_all : (r : ResolvedTree) → AreNumbered r → AreCounted 0 (all_regions r.functions)
counted_all r e = counted_by (all_regions r.functions) 0 (length (numbers.region_numbers r)) (subst (HaveNumbers (all_regions r.functions)) e (all_numbers r.functions))

-- ---- a region's unit is found by its number

is_here : (n : ℕ) (k : UnitKind) → IsNumber n k → is_region n k ≡ true
is_here n (Function name takes gives_int) h = absurd h
is_here n (Region region captures catch_at) h = grind (arith, nat_tests, h)

not_here : (n m : ℕ) (k : UnitKind) → IsNumber n k → nat_eq n m ≡ false → is_region m k ≡ false
not_here n m (Function name takes gives_int) h e = absurd h
not_here n m (Region region captures catch_at) h e = ap (λ k. nat_eq k m) h ∙ e

later : (n i : ℕ) → nat_eq n (n + suc i) ≡ false
later n i = grind (arith, nat_tests)

find_region : (vs : List Value) (ds : List Draft) (n i j : ℕ) (d : Draft) → AreCounted n ds → slice_get ds i ≡ Some d → region_from j (n + i) (map (unit_of vs) ds) ≡ Some (record { number = j + i; it = unit_of vs d })
find_region vs [] n i j d h e = absurd cc
find_region vs (x ∷ ds) n zero j d h e =
    let z : n + zero ≡ n = omega arith in
    let w : j ≡ j + zero = omega arith in
    ap (λ b. if b then Some (record { number = j; it = unit_of vs x }) else region_from (j + 1) (n + zero) (map (unit_of vs) ds)) (ap (λ k. is_region k x.kind) z ∙ is_here n x.kind h.0) ∙
    ap (λ k. Some (record { number = k; it = unit_of vs x })) w ∙ ap (λ (d : Draft). Some (record { number = j + zero; it = unit_of vs d })) (same_Some x d e)
find_region vs (x ∷ ds) n (suc i) j d h e =
    let z : n + suc i ≡ suc n + i = omega arith in
    let w : j + 1 + i ≡ j + suc i = omega arith in
    ap (λ b. if b then Some (record { number = j; it = unit_of vs x }) else region_from (j + 1) (n + suc i) (map (unit_of vs) ds)) (not_here n (n + suc i) x.kind h.0 (later n i)) ∙
    ap (λ k. region_from (j + 1) k (map (unit_of vs) ds)) z ∙ find_region vs ds (suc n) i (j + 1) d h.1 e ∙ ap (λ k. Some (record { number = k; it = unit_of vs d })) w

-- behind the functions
past_functions : (vs : List Value) (fs : List ResolvedFunction) (ds : List Draft) (m j k : ℕ) → j + length fs ≡ k → region_from j m (map (unit_of vs) (map function_draft fs ++ ds)) ≡ region_from k m (map (unit_of vs) ds)
past_functions vs [] ds m j k e = let z : j ≡ k = omega (arith, e) in ap (λ j. region_from j m (map (unit_of vs) ds)) z
past_functions vs (f ∷ fs) ds m j k e = past_functions vs fs ds m (j + 1) k (omega (arith, e))

slice_past : (vs : List Value) (fs : List ResolvedFunction) (ds : List Draft) (i : ℕ) (d : Draft) → slice_get ds i ≡ Some d → slice_get (map (unit_of vs) (map function_draft fs ++ ds)) (length fs + i) ≡ Some (unit_of vs d)
slice_past vs [] [] i d e = absurd cc
slice_past vs [] (x ∷ ds) zero d e = ap (λ (d : Draft). Some (unit_of vs d)) (same_Some x d e)
slice_past vs [] (x ∷ ds) (suc i) d e =
    let z : suc (0 + i) ≡ 0 + suc i = omega arith in
    subst (λ k. slice_get (map (unit_of vs) (x ∷ ds)) k ≡ Some (unit_of vs d)) z (slice_past vs [] ds i d e)
slice_past vs (f ∷ fs) ds i d e =
    let z : suc (length fs + i) ≡ length (f ∷ fs) + i = omega arith in
    subst (λ k. slice_get (map (unit_of vs) (map function_draft (f ∷ fs) ++ ds)) k ≡ Some (unit_of vs d)) z (slice_past vs fs ds i d e)

draft_past : (fs : List ResolvedFunction) (ds : List Draft) (i : ℕ) (d : Draft) → slice_get ds i ≡ Some d → slice_get (map function_draft fs ++ ds) (length fs + i) ≡ Some d
draft_past [] ds i d e = let z : i ≡ 0 + i = omega arith in subst (λ k. slice_get ds k ≡ Some d) z e
draft_past (f ∷ fs) ds i d e =
    let z : suc (length fs + i) ≡ length (f ∷ fs) + i = omega arith in
    subst (λ k. slice_get (map function_draft (f ∷ fs) ++ ds) k ≡ Some d) z (draft_past fs ds i d e)

placed_at : (r : ResolvedTree) (i : ℕ) (d : Draft) → AreNumbered r → slice_get (all_regions r.functions) i ≡ Some d → Placed r i d
unfolding scheme
placed_at r i d numbered e =
    let vs = constants_of r in
    let ds = all_regions r.functions in
    let z : i ≡ 0 + i = omega arith in
    record {
      unit = length r.functions + i;
      found =
          past_functions vs r.functions ds i 0 (length r.functions) (omega arith) ∙ ap (λ k. region_from (length r.functions) k (map (unit_of vs) ds)) z ∙
          find_region vs ds 0 i (length r.functions) d (counted_all r numbered) e;
      there = slice_past vs r.functions ds i d e;
      drafted = draft_past r.functions ds i d e;
    }

-- its place among the regions is its number
number_at : (ds : List Draft) (n i : ℕ) (d : Draft) → AreCounted n ds → slice_get ds i ≡ Some d → IsNumber (n + i) d.kind
number_at [] n i d h e = absurd cc
number_at (x ∷ ds) n zero d h e = let z : n ≡ n + zero = omega arith in subst (λ k. IsNumber k d.kind) z (subst (λ (x : Draft). IsNumber n x.kind) (same_Some x d e) h.0)
number_at (x ∷ ds) n (suc i) d h e = let z : suc n + i ≡ n + suc i = omega arith in subst (λ k. IsNumber k d.kind) z (number_at ds (suc n) i d h.1 e)

-- ---- the regions of a statement are among all

abbrev Among : List Draft → List Draft → Type 0
Among ds all = (i : ℕ) (d : Draft) → slice_get ds i ≡ Some d → (j : ℕ) × (slice_get all j ≡ Some d)

front_at : (ds es : List Draft) (i : ℕ) (d : Draft) → slice_get ds i ≡ Some d → slice_get (ds ++ es) i ≡ Some d
front_at [] es i d e = absurd cc
front_at (x ∷ ds) es zero d e = e
front_at (x ∷ ds) es (suc i) d e = front_at ds es i d e

back_at : (ds es : List Draft) (i : ℕ) (d : Draft) → slice_get es i ≡ Some d → slice_get (ds ++ es) (length ds + i) ≡ Some d
back_at [] es i d e = let z : i ≡ 0 + i = omega arith in subst (λ k. slice_get es k ≡ Some d) z e
back_at (x ∷ ds) es i d e = let z : suc (length ds + i) ≡ length (x ∷ ds) + i = omega arith in subst (λ k. slice_get (x ∷ ds ++ es) k ≡ Some d) z (back_at ds es i d e)

among_front : (ds es all : List Draft) → Among (ds ++ es) all → Among ds all
among_front ds es all h i d e = h i d (front_at ds es i d e)

among_back : (ds es all : List Draft) → Among (ds ++ es) all → Among es all
among_back ds es all h i d e = h (length ds + i) d (back_at ds es i d e)

module _ (r : ResolvedTree) (numbered : AreNumbered r) where
  region_placed : (number : ℕ) (d : Draft) → IsNumber number d.kind → (j : ℕ) → slice_get (all_regions r.functions) j ≡ Some d → Placed r number d
  region_placed number d is j e = subst (λ k. Placed r k d) (same number (0 + j) d.kind is (number_at (all_regions r.functions) 0 j d (counted_all r numbered) e) (omega arith)) (placed_at r j d numbered e)
    where
      same : (m k : ℕ) (kind : UnitKind) → IsNumber m kind → IsNumber k kind → k ≡ j → j ≡ m
      same m k (Function name takes gives_int) h l z = absurd h
      same m k (Region region captures catch_at) h l z = omega (arith, h, l, z)

  mutual
    is_placed : (s : Statement) → Among (regions_of s) (all_regions r.functions) → IsPlaced r s
    is_placed (if_block e body other) h =
        (block_placed body (among_front (regions_in body) (regions_in_other other) (all_regions r.functions) h), other_placed other (among_back (regions_in body) (regions_in_other other) (all_regions r.functions) h))
    is_placed (while_block e body) h = block_placed body h
    is_placed (sync_block x e body) h = block_placed body h
    is_placed (region_block number l c from slots body slot handler) h =
        let d = region_draft number from slots body slot handler in
        let inner = among_back (d ∷ []) (regions_in body ++ regions_in handler) (all_regions r.functions) h in
        let at = h 0 d refl in
        (region_placed number d refl at.0 at.1, block_placed body (among_front (regions_in body) (regions_in handler) (all_regions r.functions) inner), block_placed handler (among_back (regions_in body) (regions_in handler) (all_regions r.functions) inner))
    is_placed s h = tt

    block_placed : (b : Block) → Among (regions_in b) (all_regions r.functions) → BlockPlaced r b
    block_placed block_end h = tt
    block_placed (block_more s rest) h = (is_placed s (among_front (regions_of s) (regions_in rest) (all_regions r.functions) h), block_placed rest (among_back (regions_of s) (regions_in rest) (all_regions r.functions) h))

    other_placed : (o : OtherBlock) → Among (regions_in_other o) (all_regions r.functions) → OtherPlaced r o
    other_placed no_other h = tt
    other_placed (other_block body) h = block_placed body h

  among_functions : (fs : List ResolvedFunction) (f : ℕ) (fn : ResolvedFunction) → slice_get fs f ≡ Some fn → Among (regions_in fn.body) (all_regions fs)
  among_functions [] f fn e i d k = absurd cc
  among_functions (g ∷ fs) zero fn e i d k = (i, front_at (regions_in g.body) (all_regions fs) i d (subst (λ (x : ResolvedFunction). slice_get (regions_in x.body) i ≡ Some d) (sym (same_Some g fn e)) k))
  among_functions (g ∷ fs) (suc f) fn e i d k = let at = among_functions fs f fn e i d k in (length (regions_in g.body) + at.0, back_at (regions_in g.body) (all_regions fs) at.0 d at.1)

  -- all regions of all functions
  pub functions_placed : (f : ℕ) (fn : ResolvedFunction) → slice_get r.functions f ≡ Some fn → BlockPlaced r fn.body
  functions_placed f fn e = block_placed fn.body (among_functions r.functions f fn e)

-- The numbers of the regions of a program, in order of appearance: an outer one before those inside of it.
use Rattle.std.specs.Prelude.{◌≡◌, ℕ, zero, suc, List, [], ◌∷◌, ◌++◌, length}
use Rattle.lam_resolve_tree.specs.Tree.{Statement, if_block, while_block, sync_block, region_block, Block, block_end, block_more, OtherBlock, no_other, other_block, ResolvedFunction, ResolvedTree}

abbrev mutual
  pub regions_in : Statement → List ℕ
  regions_in (if_block e body other) = regions_of body ++ regions_or other
  regions_in (while_block e body) = regions_of body
  regions_in (sync_block n e body) = regions_of body
  regions_in (region_block m l c from own body n handler) = m ∷ (regions_of body ++ regions_of handler)
  regions_in _ = []

  pub regions_of : Block → List ℕ
  regions_of block_end = []
  regions_of (block_more s rest) = regions_in s ++ regions_of rest

  pub regions_or : OtherBlock → List ℕ
  regions_or no_other = []
  regions_or (other_block body) = regions_of body

abbrev pub function_regions : List ResolvedFunction → List ℕ
function_regions [] = []
function_regions (f ∷ fs) = regions_of f.body ++ function_regions fs

abbrev pub region_numbers : ResolvedTree → List ℕ
region_numbers r = function_regions r.functions

-- as many numbers, from n on
abbrev pub count_up : ℕ → ℕ → List ℕ
count_up n zero = []
count_up n (suc k) = n ∷ count_up (suc n) k

-- the regions are numbered from 0 by place
abbrev pub AreNumbered : ResolvedTree → Type 0
AreNumbered r = region_numbers r ≡ count_up 0 (length (region_numbers r))

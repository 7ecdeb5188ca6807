-- The slots of a unit that are in scope differ, and each is below the number of the unit's slots.
use Rattle.std.specs.Prelude.{◌≡◌, ℕ, ◌<◌, ◌≤◌, Bool, true, false, nat_eq, List, [], ◌∷◌, length}
use Rattle.std.specs.List.{list_any}
use Rattle.lam_resolve_tree.specs.Tree.{Statement, let_slot, if_block, while_block, sync_block, region_block, Block, block_end, block_more, OtherBlock, no_other, other_block, ResolvedFunction, ResolvedTree}
use Rattle.lam_resolve_tree.specs.Regions.{count_up}

abbrev pub has_slot : List ℕ → ℕ → Bool
has_slot scope n = list_any (nat_eq n) scope

-- slot n, of so many, is not in scope yet
abbrev pub IsNewSlot : ℕ → List ℕ → ℕ → Type 0
IsNewSlot count scope n = (n < count) × (has_slot scope n ≡ false)

abbrev pub AllInScope : List ℕ → List ℕ → Type 0
AllInScope scope [] = Unit {0}
AllInScope scope (n ∷ ns) = (has_slot scope n ≡ true) × AllInScope scope ns

abbrev pub scope_after : List ℕ → Statement → List ℕ
scope_after scope (let_slot n e) = n ∷ scope
scope_after scope _ = scope

abbrev mutual
  -- each slot that a statement declares is new, where these are in scope
  pub DeclaresNew : ℕ → List ℕ → Statement → Type 0
  DeclaresNew count scope (let_slot n e) = IsNewSlot count scope n
  DeclaresNew count scope (if_block e body other) = BlockDeclaresNew count scope body × OtherDeclaresNew count scope other
  DeclaresNew count scope (while_block e body) = BlockDeclaresNew count scope body
  DeclaresNew count scope (sync_block n e body) = IsNewSlot count scope n × BlockDeclaresNew count (n ∷ scope) body
  DeclaresNew count scope (region_block m l c from own body n handler) =
      AllInScope scope from × (length from ≤ length own) × BlockDeclaresNew (length own) (count_up 0 (length from)) body ×
      IsNewSlot (length own) (count_up 0 (length from)) n × BlockDeclaresNew (length own) (n ∷ count_up 0 (length from)) handler
  DeclaresNew count scope _ = Unit {0}

  pub BlockDeclaresNew : ℕ → List ℕ → Block → Type 0
  BlockDeclaresNew count scope block_end = Unit {0}
  BlockDeclaresNew count scope (block_more s rest) = DeclaresNew count scope s × BlockDeclaresNew count (scope_after scope s) rest

  pub OtherDeclaresNew : ℕ → List ℕ → OtherBlock → Type 0
  OtherDeclaresNew count scope no_other = Unit {0}
  OtherDeclaresNew count scope (other_block body) = BlockDeclaresNew count scope body

-- the parameters have the first slots
abbrev pub AllDeclareNew : List ResolvedFunction → Type 0
AllDeclareNew [] = Unit {0}
AllDeclareNew (f ∷ fs) = (length f.params ≤ length f.slots) × BlockDeclaresNew (length f.slots) (count_up 0 (length f.params)) f.body × AllDeclareNew fs

abbrev pub SlotsDiffer : ResolvedTree → Type 0
SlotsDiffer r = AllDeclareNew r.functions

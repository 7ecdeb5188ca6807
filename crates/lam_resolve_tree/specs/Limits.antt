-- How much a program with its names resolved has: no more than the limits of the language.
use Rattle.std.specs.Prelude.{◌≤◌, List, [], ◌∷◌, length}
use Rattle.lam_builtins.specs.Limits.{most_classes, most_functions, most_fields, most_params, most_slots, most_regions}
use Rattle.lam_resolve_tree.specs.Tree.{ResolvedType, Statement, if_block, while_block, sync_block, region_block, Block, block_end, block_more, OtherBlock, no_other, other_block, ResolvedFunction, ResolvedTree}
use Rattle.lam_resolve_tree.specs.Regions.{region_numbers}

abbrev mutual
  -- each region in a statement is a unit of so many slots at most
  pub RegionsFit : Statement → Type 0
  RegionsFit (if_block e body other) = BlockFits body × OtherFits other
  RegionsFit (while_block e body) = BlockFits body
  RegionsFit (sync_block n e body) = BlockFits body
  RegionsFit (region_block m l c from own body n handler) = (length own ≤ most_slots) × BlockFits body × BlockFits handler
  RegionsFit _ = Unit {0}

  pub BlockFits : Block → Type 0
  BlockFits block_end = Unit {0}
  BlockFits (block_more s rest) = RegionsFit s × BlockFits rest

  pub OtherFits : OtherBlock → Type 0
  OtherFits no_other = Unit {0}
  OtherFits (other_block body) = BlockFits body

pub record UnitFits (f : ResolvedFunction) : Type 0 where
  pub params : length f.params ≤ most_params
  pub slots : length f.slots ≤ most_slots
  pub regions : BlockFits f.body

abbrev pub AllUnitsFit : List ResolvedFunction → Type 0
AllUnitsFit [] = Unit {0}
AllUnitsFit (f ∷ fs) = UnitFits f × AllUnitsFit fs

abbrev pub AllFieldsFit : List (List ResolvedType) → Type 0
AllFieldsFit [] = Unit {0}
AllFieldsFit (c ∷ cs) = (length c ≤ most_fields) × AllFieldsFit cs

pub record WithinLimits (r : ResolvedTree) : Type 0 where
  pub classes : length r.classes ≤ most_classes
  pub fields : AllFieldsFit r.classes
  pub functions : length r.functions ≤ most_functions
  pub units : AllUnitsFit r.functions
  pub regions : length (region_numbers r) ≤ most_regions

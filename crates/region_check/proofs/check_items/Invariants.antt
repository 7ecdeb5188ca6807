use Rattle.std.proofs.Common.{◌≡◌, drop}
use Rattle.lam_syntax.specs.Tree.{items_tree}
use Rattle.region_check.specs.Breaks.{program_checked}
use Rattle.region_check.proofs.check_items.Given as goal

abbrev pub invariant-loop-item : goal.invariant-loop-item
invariant-loop-item l = program_checked (items_tree l.items) ≡ program_checked (items_tree (drop l.item-index l.items))

use Rattle.std.proofs.Common.{◌≡◌, drop}
use Rattle.lam_syntax.specs.Tree.{items_tree}
use Rattle.lam_types_kinds.specs.Values.{decls}
use Rattle.lam_types.specs.Program.{items_checked}
use Rattle.lam_types.proofs.items.check_items.Given as goal

abbrev pub invariant-loop-item : goal.invariant-loop-item
invariant-loop-item l = items_checked (decls l.known) 0 (items_tree l.items) ≡ items_checked (decls l.known) l.regions (items_tree (drop l.item-index l.items))

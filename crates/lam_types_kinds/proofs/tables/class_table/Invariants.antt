use Rattle.std.proofs.Common.{◌≡◌, drop, []}
use Rattle.lam_syntax.specs.Tree.{items_tree}
use Rattle.lam_types_kinds.specs.Tables.{class_table}
use Rattle.lam_types_kinds.specs.Values.{class_entries}
use Rattle.lam_types_kinds.proofs.tables.class_table.Given as goal

abbrev pub invariant-loop-item : goal.invariant-loop-item
invariant-loop-item l = class_table [] (items_tree l.items) ≡ class_table (class_entries l.classes.entries) (items_tree (drop l.item-index l.items))

use Rattle.std.proofs.Common.{◌≡◌, drop, []}
use Rattle.lam_syntax.specs.Tree.{items_tree}
use Rattle.lam_types_kinds.specs.Tables.{function_table}
use Rattle.lam_types_kinds.specs.Values.{function_entries}
use Rattle.lam_types_kinds.proofs.tables.function_table.Given as goal

abbrev pub invariant-loop-item : goal.invariant-loop-item
invariant-loop-item l = function_table [] (items_tree l.items) ≡ function_table (function_entries l.functions.entries) (items_tree (drop l.item-index l.items))

use Rattle.std.proofs.Common.{◌≡◌, drop, ◌++◌}
use Rattle.lam_syntax.specs.Tree.{items_tree}
use Rattle.lam_resolve_laws.specs.Resolved.{class_names}
use Rattle.lam_resolve_tables.specs.Entries.{entries_of}
use Rattle.lam_resolve_tables.proofs.tables.class_names.Given as goal

abbrev pub invariant-loop-item : goal.invariant-loop-item
invariant-loop-item l = entries_of l.names ++ class_names (items_tree (drop l.item-index l.items)) ≡ class_names (items_tree l.items)

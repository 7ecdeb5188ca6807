use Rattle.std.proofs.Common.{drop}
use Rattle.lam_syntax.specs.Tree.{items_tree}
use Rattle.lam_resolve_laws.specs.Resolved.{resolve_classes}
use Rattle.lam_resolve_tables.specs.Entries.{entries_of}
use Rattle.lam_resolve_tables.specs.Tables.{all_fields}
use Rattle.lam_resolve_tables.proofs.Options.{Collected}
use Rattle.lam_resolve_tables.proofs.tables.class_table.Given as goal

abbrev pub invariant-loop-item : goal.invariant-loop-item
invariant-loop-item l = Collected (resolve_classes (entries_of l.names) (items_tree l.items)) (resolve_classes (entries_of l.names) (items_tree (drop l.item-index l.items))) (all_fields l.classes.items)

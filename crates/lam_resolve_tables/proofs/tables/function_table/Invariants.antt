use Rattle.std.proofs.Common.{drop}
use Rattle.lam_syntax.specs.Tree.{items_tree}
use Rattle.lam_resolve_laws.specs.Resolved.{resolve_heads}
use Rattle.lam_resolve_tables.specs.Entries.{entries_of}
use Rattle.lam_resolve_tables.specs.Tables.{heads}
use Rattle.lam_resolve_tables.proofs.Options.{Collected}
use Rattle.lam_resolve_tables.proofs.tables.function_table.Given as goal

abbrev pub invariant-loop-item : goal.invariant-loop-item
invariant-loop-item l = Collected (resolve_heads (entries_of l.names) (items_tree l.items)) (resolve_heads (entries_of l.names) (items_tree (drop l.item-index l.items))) (heads l.functions)

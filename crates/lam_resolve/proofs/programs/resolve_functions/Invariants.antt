use Rattle.std.proofs.Common.{drop}
use Rattle.lam_syntax.specs.Tree.{items_tree}
use Rattle.lam_resolve_tree.specs.Tree.{functions_tree}
use Rattle.lam_resolve_laws.specs.Resolved.{resolve_functions}
use Rattle.lam_resolve_tables.specs.Tables.{tables}
use Rattle.lam_resolve_tables.proofs.Options.{Collected}
use Rattle.lam_resolve.proofs.programs.resolve_functions.Given as goal

abbrev pub invariant-loop-item : goal.invariant-loop-item
invariant-loop-item l = Collected (resolve_functions (tables l.t) 0 (items_tree l.items)) (resolve_functions (tables l.t) l.regions (items_tree (drop l.item-index l.items))) (functions_tree l.functions.items)

use Rattle.lam_resolve_tree.specs.Tree.{resolved_tree}
use Rattle.source_walk_run.proofs.Placing.{AreUpTo}
use Rattle.source_walk_run.proofs.walks.first_walks.Given as goal

abbrev pub invariant-loop-start : goal.invariant-loop-start
invariant-loop-start l = AreUpTo (resolved_tree l.program) l.starts l.turns l.start-index l.walks.items

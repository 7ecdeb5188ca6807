use Rattle.lam_resolve_tree.specs.Tree.{resolved_tree}
use Rattle.source_walk.proofs.Starting.{AreUpTo}
use Rattle.source_walk.proofs.starts.beginnings.Given as goal

abbrev pub invariant-loop-thread : goal.invariant-loop-thread
invariant-loop-thread l = AreUpTo (resolved_tree l.program) l.code l.threads l.thread-index l.all.items

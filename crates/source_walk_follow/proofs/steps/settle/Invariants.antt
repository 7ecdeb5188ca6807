use Rattle.std.proofs.Common.{◌≡◌, ◌+◌, cond}
use Rattle.lam_resolve_tree.specs.Tree.{resolved_tree}
use Rattle.source_walk_parts.specs.States.{state_of, left_at}
use Rattle.source_walk_follow.specs.Standing.{stands}
use Rattle.source_walk_follow.proofs.steps.settle.Given as goal

abbrev pub invariant-loop-alloc : goal.invariant-loop-alloc
invariant-loop-alloc l = left_at (resolved_tree l.program) l.control (state_of l.w) ≡ left_at (resolved_tree l.program) l.initial.control (state_of l.initial.w)

abbrev pub decreases-loop-alloc : goal.decreases-loop-alloc
decreases-loop-alloc l = cond (stands l.control) 0 (l.w.units + 1)

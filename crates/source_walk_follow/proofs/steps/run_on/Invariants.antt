use Rattle.std.proofs.Common.{◌≡◌, ◌≤◌, reverse}
use Rattle.lam_resolve_tree.specs.Tree.{resolved_tree}
use Rattle.source_walk_parts.specs.Weights.{pending}
use Rattle.source_walk_parts.specs.States.{state_of, left_at}
use Rattle.source_walk_follow.proofs.StepLaws.{level}
use Rattle.source_walk_follow.proofs.steps.run_on.Given as goal

abbrev pub invariant-loop-alloc : goal.invariant-loop-alloc
invariant-loop-alloc l = (left_at (resolved_tree l.program) l.control (state_of l.w) ≡ left_at (resolved_tree l.program) l.initial.control (state_of l.initial.w)) × (l.w.units ≤ l.initial.w.units)

abbrev pub decreases-loop-alloc : goal.decreases-loop-alloc
decreases-loop-alloc l = level l.w.units l.initial.w.units (pending l.control (reverse l.w.frames.items))

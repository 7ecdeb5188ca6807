use Rattle.std.proofs.Common.{map}
use Rattle.world_save_items.specs.Steps.{found}
use Rattle.world_save_items.proofs.Walks.{IsWalking, down, size}
use Rattle.world_save_items.proofs.traversal.walk.Given as goal

abbrev pub invariant-loop-frame : goal.invariant-loop-frame
invariant-loop-frame l = IsWalking l.files (map found l.trail.steps.items) (down l.trail.stack.items) l.trail.path.items

abbrev pub decreases-loop-frame : goal.decreases-loop-frame
decreases-loop-frame l = size l.files l.trail.path.items (down l.trail.stack.items)

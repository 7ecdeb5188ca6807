use Rattle.std.proofs.Common.{◌≡◌, map, take, drop, ◌++◌, length, not}
use Rattle.barrier_thin.proofs.again.negate.Given as goal

abbrev pub invariant-loop-i : goal.invariant-loop-i
invariant-loop-i l = (length l.flags.items ≡ length l.initial.flags.items) × (l.flags.items ≡ map not (take l.i l.initial.flags.items) ++ drop l.i l.initial.flags.items)

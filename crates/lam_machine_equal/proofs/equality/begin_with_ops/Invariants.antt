use Rattle.std.proofs.Common.{◌≡◌, take}
use Rattle.lam_machine_equal.proofs.equality.begin_with_ops.Given as goal

abbrev pub invariant-loop-at : goal.invariant-loop-at
invariant-loop-at l = take l.at l.a ≡ take l.at l.b

use Rattle.std.proofs.Common.{◌≡◌, ◌++◌, map, drop}
use Rattle.thinned_code.specs.Thinned.{moved_op, sifted}
use Rattle.barrier_thin.proofs.ops.moved_ops.Given as goal

abbrev pub invariant-loop-i : goal.invariant-loop-i
invariant-loop-i l = l.out.items ++ sifted (drop l.i l.staying) (map (moved_op l.staying) (drop l.i l.ops)) ≡ sifted l.staying (map (moved_op l.staying) l.ops)

use Rattle.std.proofs.Common.{◌≤◌, length, map, arith}
use Rattle.thinned_code.specs.Thinned.{moved_op, sifted}
use Rattle.barrier_thin.proofs.Moving.{sift_end}
use Rattle.barrier_thin.proofs.ops.moved_ops.Goals as goal

pub returns : goal.returns
returns c =
    let past : length c.args.ops.now ≤ c.loop-i.i = omega (arith, c.loop-i-test.false) in
    sift_end (moved_op c.args.staying.now) c.args.staying.now c.args.ops.now (sifted c.args.staying.now (map (moved_op c.args.staying.now) c.args.ops.now)) c.loop-i.out.items c.loop-i.i past c.loop-i.invariant

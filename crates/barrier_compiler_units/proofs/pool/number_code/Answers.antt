use Rattle.barrier_compiler_units.proofs.Numbers.{with_ops, next_op}
use Rattle.barrier_compiler_units.proofs.pool.number_code.Goals as goal

pub loop-one-preserved : goal.loop-one-preserved
loop-one-preserved c =
    with_ops c.in_ok-push.ensures.items
    (next_op c.args.code.now c.loop-one.one-index c.one-item.result c.in_ok-number_one.field-0 c.loop-one-test.true c.one-item.is c.loop-one.invariant c.in_ok-number_one.ensures.pool c.in_ok-number_one.ensures.op c.in_ok-number_one.ensures.all_in c.in_ok-number_one.ensures.room)

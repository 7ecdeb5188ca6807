use Rattle.std.proofs.Common.{arith}
use Rattle.barrier_compiler_ops.proofs.Joins.{starts}
use Rattle.barrier_compiler_ops.proofs.ExprArms.{sign_added, signs_done}
use Rattle.barrier_compiler_ops.proofs.exprs.emit_signs.Goals as goal

pub loop-item-init : goal.loop-item-init
loop-item-init c = starts _ _

pub loop-item-preserved : goal.loop-item-preserved
loop-item-preserved c = sign_added _ c.args.items.now c.loop-item.item-index _ c.loop-item-test.true c.loop-item.invariant c.emit_sign.ensures

pub returns : goal.returns
returns c = signs_done _ c.args.items.now c.loop-item.item-index (omega arith) c.loop-item.invariant

use Rattle.barrier_compiler_ops.proofs.Joins.{joins}
use Rattle.barrier_compiler_ops.proofs.blocks.emit_enter.Goals as goal

pub returns : goal.returns
returns c = joins c.emit_expr.ensures (joins c.store.ensures (joins c.load.ensures c.push.ensures))

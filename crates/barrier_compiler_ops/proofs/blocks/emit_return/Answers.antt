use Rattle.barrier_compiler_ops.proofs.Joins.{joins}
use Rattle.barrier_compiler_ops.proofs.blocks.emit_return.Goals as goal

pub returns : goal.returns
returns c = joins c.emit_value.ensures (joins c.emit_returns.ensures c.push.ensures)

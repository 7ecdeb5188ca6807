use Rattle.barrier_compiler_ops.proofs.Joins.{joins}
use Rattle.barrier_compiler_ops.proofs.blocks.emit_put_field.Goals as goal

pub returns : goal.returns
returns c = joins c.emit_expr.ensures (joins c.emit_expr-2.ensures (joins c.push.ensures c.put_field.ensures))

use Rattle.barrier_compiler_ops.proofs.Joins.{joins}
use Rattle.barrier_compiler_ops.proofs.blocks.emit_store.Goals as goal

pub returns : goal.returns
returns c = joins c.emit_expr.ensures c.store.ensures

use Rattle.barrier_compiler_ops.proofs.Joins.{joins}
use Rattle.barrier_compiler_ops.proofs.exprs.emit_caps.Goals as goal

pub returns : goal.returns
returns c = joins c.push.ensures c.emit_signs.ensures

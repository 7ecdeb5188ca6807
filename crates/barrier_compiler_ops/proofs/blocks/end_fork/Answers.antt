use Rattle.barrier_compiler_ops.proofs.Jumps.{when_emits}
use Rattle.barrier_compiler_ops.proofs.blocks.end_fork.Goals as goal

pub returns : goal.returns
returns c = record { by = λ a b ps t e g. when_emits t e g c.len-end.ensures c.point.ensures }

use Rattle.std.proofs.lemmas.List.{map-set}
use Rattle.barrier_compiler_ops.proofs.buffer.point_at.Goals as goal

pub returns-then-at-len-clause-items : goal.returns-then-at-len-clause-items
returns-then-at-len-clause-items c = search map-set

use Rattle.std.proofs.Common.{arith}
use Rattle.lam_make.specs.Made.{next}
use Rattle.lam_make.proofs.draws.next.Goals as goal

pub returns : goal.returns
unfolding next
returns c = omega arith

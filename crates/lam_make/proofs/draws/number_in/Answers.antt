use Rattle.std.proofs.Common.{refl}
use Rattle.lam_make.specs.Made.{number_in}
use Rattle.lam_make.proofs.draws.number_in.Goals as goal

pub returns : goal.returns
unfolding number_in
returns c = refl

use Rattle.lam_machine_valid.proofs.NextLemmas.{access_passes}
use Rattle.lam_machine_valid.proofs.accesses_pass.Goals as goal

pub returns : goal.returns
returns c = access_passes

use Rattle.lam_machine_valid.proofs.GrowLemmas.{go_on}
use Rattle.lam_machine_valid.proofs.living_go_on.Goals as goal

pub returns : goal.returns
returns c = go_on

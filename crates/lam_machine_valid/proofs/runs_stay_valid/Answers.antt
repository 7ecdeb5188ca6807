use Rattle.lam_machine_valid.proofs.WholeLemmas.{runs_valid}
use Rattle.lam_machine_valid.proofs.runs_stay_valid.Goals as goal

pub returns : goal.returns
returns c = runs_valid

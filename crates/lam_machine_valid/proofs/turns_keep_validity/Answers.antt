use Rattle.lam_machine_valid.proofs.WholeLemmas.{stay_valid}
use Rattle.lam_machine_valid.proofs.turns_keep_validity.Goals as goal

pub returns : goal.returns
returns c = stay_valid

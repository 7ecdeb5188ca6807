use Rattle.lam_machine_means.proofs.Whole.{suit_in_runs}
use Rattle.lam_machine_means.proofs.answers_suit_in_runs.Goals as goal

pub returns : goal.returns
returns c = suit_in_runs

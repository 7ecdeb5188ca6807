use Rattle.lam_machine_means.proofs.Sticking.{none_sticks}
use Rattle.lam_machine_means.proofs.no_run_sticks.Goals as goal

pub returns : goal.returns
returns c = none_sticks

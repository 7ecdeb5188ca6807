use Rattle.lam_machine_runs.proofs.RunLemmas.{stopped_runs}
use Rattle.lam_machine_runs.proofs.runs_stop.Goals as goal

pub returns : goal.returns
returns c = stopped_runs

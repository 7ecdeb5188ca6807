use Rattle.lam_machine_runs.proofs.RunLemmas.{joined_runs}
use Rattle.lam_machine_runs.proofs.runs_join.Goals as goal

pub returns : goal.returns
returns c = joined_runs

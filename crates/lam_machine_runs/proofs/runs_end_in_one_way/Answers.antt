use Rattle.lam_machine_runs.proofs.EndLemmas.{one_end}
use Rattle.lam_machine_runs.proofs.runs_end_in_one_way.Goals as goal

pub returns : goal.returns
returns c = one_end

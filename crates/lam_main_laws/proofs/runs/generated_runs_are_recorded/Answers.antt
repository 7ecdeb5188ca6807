use Rattle.lam_main_laws.proofs.CallLemmas.{generated}
use Rattle.lam_main_laws.proofs.runs.generated_runs_are_recorded.Goals as goal

pub returns : goal.returns
returns c = generated

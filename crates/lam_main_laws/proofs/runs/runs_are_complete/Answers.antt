use Rattle.lam_main_laws.proofs.CallLemmas.{runs_planned}
use Rattle.lam_main_laws.proofs.runs.runs_are_complete.Goals as goal

pub returns : goal.returns
returns c = runs_planned

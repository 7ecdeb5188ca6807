use Rattle.lam_main_laws.proofs.Orderly.{runs_end}
use Rattle.lam_main_laws.proofs.runs.orderly_runs_end.Goals as goal

pub returns : goal.returns
returns c = runs_end c.runs_are_complete.ensures

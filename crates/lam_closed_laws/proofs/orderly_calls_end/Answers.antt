use Rattle.lam_closed_laws.proofs.OrderlyLemmas.{orderly}
use Rattle.lam_closed_laws.proofs.orderly_calls_end.Goals as goal

pub returns : goal.returns
returns c = λ ws status old new answer. orderly ws status old new answer (c.closed_runs_are_complete.ensures ws old.files) (c.checks_are_told.ensures ws old.files) c.plans_are_one.ensures

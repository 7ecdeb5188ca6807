use Rattle.lam_closed_laws.proofs.PlanLemmas.{complete}
use Rattle.lam_closed_laws.proofs.closed_runs_are_complete.Goals as goal

pub returns : goal.returns
returns c = complete c.each_start_ends_once.ensures

use Rattle.lam_closed_laws.proofs.CheckLemmas.{told}
use Rattle.lam_closed_laws.proofs.checks_are_told.Goals as goal

pub returns : goal.returns
returns c = told c.runs_stop.ensures c.departures_are_first.ensures

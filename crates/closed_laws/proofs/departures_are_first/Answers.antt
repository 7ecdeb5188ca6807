use Rattle.closed_laws.proofs.DepartLemmas.{departures_first}
use Rattle.closed_laws.proofs.departures_are_first.Goals as goal

pub returns : goal.returns
returns c = departures_first

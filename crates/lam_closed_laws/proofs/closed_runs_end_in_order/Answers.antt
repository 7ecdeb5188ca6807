use Rattle.lam_closed_laws.proofs.CallLemmas.{ends_in_order}
use Rattle.lam_closed_laws.proofs.closed_runs_end_in_order.Goals as goal

pub returns : goal.returns
returns c = ends_in_order

use Rattle.lam_main_laws.proofs.CallLemmas.{ends_in_order}
use Rattle.lam_main_laws.proofs.runs.runs_end_in_order.Goals as goal

pub returns : goal.returns
returns c = ends_in_order

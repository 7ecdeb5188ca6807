use Rattle.lam_main_laws.proofs.FrontLemmas.{printed_first}
use Rattle.lam_main_laws.proofs.fronts.fronts_are_printed.Goals as goal

pub returns : goal.returns
returns c = printed_first c.fronts_are_seen_first.ensures c.runs_stop.ensures

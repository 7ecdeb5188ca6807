use Rattle.lam_main_laws.proofs.FrontLemmas.{seen_first}
use Rattle.lam_main_laws.proofs.fronts.fronts_are_seen_first.Goals as goal

pub returns : goal.returns
returns c = seen_first c.runs_join.ensures

use Rattle.lam_main_laws.proofs.WalkLemmas.{told}
use Rattle.lam_main_laws.proofs.walks.walks_are_told.Goals as goal

pub returns : goal.returns
returns c = told c.runs_stop.ensures

use Rattle.lam_main_laws.proofs.SaveLemmas.{told}
use Rattle.lam_main_laws.proofs.saves.saves_are_told.Goals as goal

pub returns : goal.returns
returns c = told c.runs_stop.ensures

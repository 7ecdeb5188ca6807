use Rattle.lam_main_laws.proofs.PairLemmas.{told}
use Rattle.lam_main_laws.proofs.pairs.pairs_are_told.Goals as goal

pub returns : goal.returns
returns c = told c.pairs_look_same.ensures c.runs_stop.ensures c.texts_start.ensures

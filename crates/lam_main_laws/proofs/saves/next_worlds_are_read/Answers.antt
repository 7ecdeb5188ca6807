use Rattle.lam_main_laws.proofs.SaveLemmas.{worlds_read}
use Rattle.lam_main_laws.proofs.saves.next_worlds_are_read.Goals as goal

pub returns : goal.returns
returns c = worlds_read c.runs_stop.ensures c.thinned_code_keeps_units.ensures.code

use Rattle.lam_main_laws.proofs.SaveLemmas.{worlds_agree}
use Rattle.lam_main_laws.proofs.saves.next_starts_agree.Goals as goal

pub returns : goal.returns
returns c = worlds_agree c.runs_stop.ensures c.thinned_code_keeps_units.ensures.code

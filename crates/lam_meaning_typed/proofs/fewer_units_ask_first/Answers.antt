use Rattle.lam_meaning_typed.proofs.First.{fewer_units}
use Rattle.lam_meaning_typed.proofs.fewer_units_ask_first.Goals as goal

pub returns : goal.returns
returns c = fewer_units

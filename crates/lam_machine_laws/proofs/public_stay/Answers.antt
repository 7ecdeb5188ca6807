use Rattle.lam_machine_laws.proofs.TurnLemmas.{public_stays}
use Rattle.lam_machine_laws.proofs.public_stay.Goals as goal

pub returns : goal.returns
returns c = public_stays

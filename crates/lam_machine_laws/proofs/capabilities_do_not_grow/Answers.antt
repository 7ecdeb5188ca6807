use Rattle.lam_machine_laws.proofs.CapsLemmas.{caps_stay}
use Rattle.lam_machine_laws.proofs.capabilities_do_not_grow.Goals as goal

pub returns : goal.returns
returns c = caps_stay

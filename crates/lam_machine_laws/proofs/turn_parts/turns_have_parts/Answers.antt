use Rattle.lam_machine_laws.proofs.PartLemmas.{private_parts, asked_parts}
use Rattle.lam_machine_laws.proofs.turn_parts.turns_have_parts.Goals as goal

pub returns : goal.returns
returns c = record { private = private_parts; asked = asked_parts }

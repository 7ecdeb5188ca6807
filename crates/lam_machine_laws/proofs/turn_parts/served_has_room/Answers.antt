use Rattle.lam_machine_laws.proofs.RoomLemmas.{room_row}
use Rattle.lam_machine_laws.proofs.turn_parts.served_has_room.Goals as goal

pub returns : goal.returns
returns c = λ w t k a ready living. room_row w t k a ready living

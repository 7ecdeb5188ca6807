use Rattle.seat_host.proofs.Apart.{apart}
use Rattle.seat_host.proofs.places.places_differ.Goals as goal

pub returns : goal.returns
returns c = apart

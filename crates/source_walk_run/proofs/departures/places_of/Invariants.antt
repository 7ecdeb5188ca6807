use Rattle.std.proofs.Common.{◌≡◌, map, take}
use Rattle.source_walk_follow.specs.Following.{place_left}
use Rattle.source_walk_run.proofs.departures.places_of.Given as goal

abbrev pub invariant-loop-walk : goal.invariant-loop-walk
invariant-loop-walk l = l.places.items ≡ map place_left (take l.walk-index l.walks)

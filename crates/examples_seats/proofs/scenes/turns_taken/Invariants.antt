use Rattle.std.proofs.Common.{◌≡◌}
use Rattle.examples_seats.proofs.scenes.turns_taken.Given as goal

abbrev pub invariant-loop : goal.invariant-loop
invariant-loop g l = l.seat.of ≡ l.run

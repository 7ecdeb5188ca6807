use Rattle.std.proofs.Common.{◌≡◌}
use Rattle.examples_seats.proofs.scenes.one_answered.Given as goal

abbrev pub invariant-loop-thread : goal.invariant-loop-thread
invariant-loop-thread g l = l.seat.of ≡ l.run

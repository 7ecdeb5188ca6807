use Rattle.std.proofs.Common.{◌≡◌}
use Rattle.examples_seats_many.proofs.callers.take_turns.Given as goal

abbrev pub invariant-loop-calls : goal.invariant-loop-calls
invariant-loop-calls g l = l.seat.of ≡ l.run

use Rattle.std.proofs.Common.{◌≡◌}
use Rattle.examples_seats.proofs.scenes.two_answered.Given as goal

abbrev pub invariant-loop-call : goal.invariant-loop-call
invariant-loop-call g l = (l.pair.first.of ≡ l.run) × (l.pair.second.of ≡ l.run)

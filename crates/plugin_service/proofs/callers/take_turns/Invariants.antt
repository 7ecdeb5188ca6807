use Rattle.std.proofs.Common.{◌≡◌}
use Rattle.plugin_service.proofs.callers.take_turns.Given as goal

abbrev pub invariant-loop : goal.invariant-loop
invariant-loop g l = l.seat.of ≡ l.run

use Rattle.std.proofs.Common.{◌-◌, length}
use Rattle.closed_run.proofs.DepartLemmas.{IsAlong}
use Rattle.closed_run.proofs.departures.follow.Given as goal

abbrev pub invariant-turns : goal.invariant-turns
invariant-turns l = IsAlong l.base l.code l.initial.world l.turns l.turn l.world l.slot

abbrev pub decreases-turns : goal.decreases-turns
decreases-turns l = length l.turns - l.turn

use Rattle.std.proofs.Common.{take}
use Rattle.source_walk_run.specs.Counting.{AreTurnsOf}
use Rattle.source_walk_run.proofs.tally.turns_of_each.Given as goal

abbrev pub invariant-loop-turn : goal.invariant-loop-turn
invariant-loop-turn l = AreTurnsOf (take l.turn-index l.turns) l.threads l.counts.items

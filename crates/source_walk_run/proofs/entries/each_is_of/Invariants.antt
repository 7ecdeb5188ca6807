use Rattle.source_walk_run.proofs.Sorts.{IsLeft}
use Rattle.source_walk_run.proofs.entries.each_is_of.Given as goal

abbrev pub invariant-loop-at : goal.invariant-loop-at
invariant-loop-at l = IsLeft l.types l.args l.at

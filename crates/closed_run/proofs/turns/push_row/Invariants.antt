use Rattle.std.proofs.Common.{◌≡◌, ◌++◌}
use Rattle.std.specs.Prelude.{replicate}
use Rattle.closed_run.proofs.turns.push_row.Given as goal

abbrev pub invariant-loop-pushed : goal.invariant-loop-pushed
invariant-loop-pushed l = l.turns.items ≡ l.initial.turns.items ++ replicate l.pushed l.thread

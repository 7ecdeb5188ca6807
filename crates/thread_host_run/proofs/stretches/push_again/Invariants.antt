use Rattle.std.proofs.Common.{◌≡◌, ◌+◌, ◌≤◌, ◌++◌, vec_len}
use Rattle.std.specs.Prelude.{vec_capacity, replicate}
use Rattle.thread_host_run.proofs.stretches.push_again.Given as goal

abbrev pub invariant-loop-pushed : goal.invariant-loop-pushed
invariant-loop-pushed l = (l.turns.items ≡ l.initial.turns.items ++ replicate l.pushed l.thread) × (vec_len l.turns + l.count ≤ vec_capacity l.turns + l.pushed)

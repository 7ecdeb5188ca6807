use Rattle.std.proofs.Common.{◌≡◌, ◌≤◌, take, length, vec_capacity}
use Rattle.thread_core_state.proofs.operands.filled.Given as goal

abbrev pub invariant-loop-value : goal.invariant-loop-value
invariant-loop-value l = record {
  front : l.out.items ≡ take l.value-index l.values;
  room : vec_capacity l.out ≡ vec_capacity l.initial.out;
  enough : length l.values ≤ vec_capacity l.out;
}

use Rattle.std.proofs.Common.{◌≡◌, ◌++◌, length, reverse, vec_capacity}
use Rattle.thread_core_state.proofs.operands.move_last.Given as goal

abbrev pub invariant-loop : goal.invariant-loop
invariant-loop l = record {
  parts : l.initial.items.items ≡ l.items.items ++ reverse l.out.items;
  count : length l.out.items ≡ l.counter;
  room : vec_capacity l.out ≡ vec_capacity l.initial.out;
}

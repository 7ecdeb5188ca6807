use Rattle.std.proofs.Common.{◌≡◌, ◌++◌, replicate, vec_capacity}
use Rattle.thread_steps.specs.Value.TheVariants.{Nothing}
use Rattle.thread_core_state.proofs.operands.fill.Given as goal

abbrev pub invariant-loop : goal.invariant-loop
invariant-loop l = record {
  filled : l.items.items ≡ l.initial.items.items ++ replicate l.counter Nothing;
  room : vec_capacity l.items ≡ vec_capacity l.initial.items;
}

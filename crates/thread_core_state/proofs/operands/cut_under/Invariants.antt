use Rattle.std.proofs.Common.{◌≡◌, ◌-◌, ◌++◌, take, drop}
use Rattle.thread_core_state.proofs.operands.cut_under.Given as goal

abbrev pub invariant-loop-taken : goal.invariant-loop-taken
invariant-loop-taken l = l.items.items ≡ take (l.top - l.taken) l.initial.items.items ++ drop l.top l.initial.items.items

use Rattle.std.proofs.Common.{◌≡◌, take}
use Rattle.thread_core_state.proofs.thread.copied_contexts.Given as goal

abbrev pub invariant-loop-context : goal.invariant-loop-context
invariant-loop-context l = l.out.items ≡ take l.context-index l.contexts

use Rattle.std.proofs.Common.{◌≡◌, take}
use Rattle.thread_core_effects.specs.Acting.{tag_list}
use Rattle.thread_core_effects.proofs.asks.tags_from.Given as goal

abbrev pub invariant-loop-value : goal.invariant-loop-value
invariant-loop-value l = l.tags.items ≡ tag_list (take l.value-index l.values)

use Rattle.std.proofs.Common.{◌≡◌, take}
use Rattle.labelled_heap.proofs.heap.Row.copy.Given as goal

abbrev pub invariant-loop-thing : goal.invariant-loop-thing
invariant-loop-thing l = l.things.items ≡ take l.thing-index l.self.things.items

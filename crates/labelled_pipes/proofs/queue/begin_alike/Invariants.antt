use Rattle.std.proofs.Common.{◌≡◌, take}
use Rattle.labelled_pipes.proofs.queue.begin_alike.Given as goal

abbrev pub invariant-loop-at : goal.invariant-loop-at
invariant-loop-at l = take l.at l.a.items ≡ take l.at l.b.items

use Rattle.std.proofs.Common.{◌≡◌, ◌++◌}
use Rattle.std.specs.VecDeque.Iter.{deque_iter_rest}
use Rattle.labelled_pipes.proofs.queue.copied.Given as goal

-- what is copied, before what is left
abbrev pub invariant-loop-message : goal.invariant-loop-message
invariant-loop-message l = l.out.items ++ deque_iter_rest l.message-iterator ≡ l.messages.items

use Rattle.std.proofs.Common.{◌≡◌, vec_len}
use Rattle.thread_host.proofs.workers.new_workers.Given as goal

abbrev pub invariant-loop-number : goal.invariant-loop-number
invariant-loop-number l = vec_len l.workers ≡ l.number

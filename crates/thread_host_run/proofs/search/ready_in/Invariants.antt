use Rattle.std.proofs.Common.{◌≡◌, ℕ, ◌<◌, false}
use Rattle.lam_machine_terms.specs.Turns.{ready}
use Rattle.thread_host_run.proofs.search.ready_in.Given as goal

abbrev pub invariant-loop-thread : goal.invariant-loop-thread
invariant-loop-thread l = (t : ℕ) → t < l.thread → ready l.code l.world t ≡ false

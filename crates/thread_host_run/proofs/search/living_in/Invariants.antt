use Rattle.std.proofs.Common.{◌≡◌, ℕ, ◌<◌, false}
use Rattle.lam_machine_terms.specs.Worlds.{thread_at}
use Rattle.lam_machine_terms.specs.Turns.{is_living}
use Rattle.thread_host_run.proofs.search.living_in.Given as goal

abbrev pub invariant-loop-thread : goal.invariant-loop-thread
invariant-loop-thread l = (t : ℕ) → t < l.thread → is_living (thread_at l.world t) ≡ false

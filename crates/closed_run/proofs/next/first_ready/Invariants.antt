use Rattle.std.proofs.Common.{◌≡◌, ◌-◌}
use Rattle.closed_terms.specs.Schedule.{first_ready}
use Rattle.closed_run.proofs.next.first_ready.Given as goal

abbrev pub invariant-loop-thread : goal.invariant-loop-thread
invariant-loop-thread l = first_ready l.code l.world (l.to - l.from) l.from ≡ first_ready l.code l.world (l.to - l.thread) l.thread

use Rattle.source_walk.specs.Walking.{NoneBelow}
use Rattle.source_walk.proofs.threads_walk.first_departure.Given as goal

abbrev pub invariant-loop-thread : goal.invariant-loop-thread
invariant-loop-thread l = NoneBelow l.departures l.thread

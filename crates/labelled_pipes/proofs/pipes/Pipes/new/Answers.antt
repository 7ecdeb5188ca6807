use Rattle.std.proofs.Common.{subst, sym}
use Rattle.labelled_pipes.specs.Queues.{IsSound}
use Rattle.labelled_pipes.specs.Seen.{queues_of}
use Rattle.labelled_pipes.proofs.QueueLemmas.{sound_none}
use Rattle.labelled_pipes.proofs.pipes.Pipes.new.Goals as goal

pub invariant_of-result : goal.invariant_of-result
invariant_of-result c = subst IsSound (λ i. queues_of (sym c.new.ensures.empty i) (sym c.new-2.ensures i)) sound_none

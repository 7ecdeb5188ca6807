use Rattle.std.proofs.Common.{◌∙◌, sym, subst}
use Rattle.labelled_pipes.specs.Queues.{IsSound}
use Rattle.labelled_pipes.proofs.QueueLemmas.{kept}
use Rattle.labelled_pipes.proofs.pipes.Pipes.copy.Goals as goal

pub invariant_of-result : goal.invariant_of-result
invariant_of-result c = subst IsSound (c.self.view_is ∙ sym (kept c.self.inside.queues.entries c.self.inside.counters c.args.self.now c.self.view_is _ _ c.in_ok-queues.ensures c.in_ok-counters.ensures)) c.self.invariant

pub returns : goal.returns
returns c = kept c.self.inside.queues.entries c.self.inside.counters c.args.self.now c.self.view_is _ _ c.in_ok-queues.ensures c.in_ok-counters.ensures

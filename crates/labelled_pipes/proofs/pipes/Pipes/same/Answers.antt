use Rattle.labelled_pipes.proofs.QueueLemmas.{same_pipes, pipes_same}
use Rattle.labelled_pipes.proofs.pipes.Pipes.same.Goals as goal

pub returns-then-same : goal.returns-then-same
returns-then-same c = (
  λ t. same_pipes c.self.inside.queues.entries c.other.inside.queues.entries c.self.inside.counters c.other.inside.counters c.args.self.now c.args.other.now c.self.view_is c.other.view_is (c.same.ensures.0 c.if-same.true) (c.same_maps.ensures.0 t),
  λ e. c.same_maps.ensures.1 (pipes_same c.self.inside.queues.entries c.other.inside.queues.entries c.self.inside.counters c.other.inside.counters c.args.self.now c.args.other.now c.self.view_is c.other.view_is e),
)

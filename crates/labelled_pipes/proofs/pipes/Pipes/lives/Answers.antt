use Rattle.std.proofs.Common.{◌∙◌}
use Rattle.labelled_pipes.proofs.QueueLemmas.{lives_seen}
use Rattle.labelled_pipes.proofs.pipes.Pipes.lives.Goals as goal

pub returns : goal.returns
returns c = c.contains_key.ensures ∙ lives_seen c.self.inside.queues.entries c.self.inside.counters c.args.self.now c.self.view_is c.args.p.now

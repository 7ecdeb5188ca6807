use Rattle.std.proofs.Common.{◌∙◌, sym, ap}
use Rattle.std.specs.Option.{option_copied}
use Rattle.labelled_pipes.specs.Messages.{front_of}
use Rattle.labelled_pipes.proofs.QueueLemmas.{none_there, line_there}
use Rattle.labelled_pipes.proofs.pipes.Pipes.front.Goals as goal

pub returns-in-None : goal.returns-in-None
returns-in-None c = ap (front_of c.args.kind) (none_there c.self.inside.queues.entries c.self.inside.counters c.args.self.now c.self.view_is c.args.p.now (sym c.get.ensures.value ∙ ap option_copied c.in-None.is))

pub returns-in-Some : goal.returns-in-Some
returns-in-Some c = c.front_in.ensures ∙ ap (front_of c.args.kind) (line_there c.self.inside.queues.entries c.self.inside.counters c.args.self.now c.self.view_is c.args.p.now c.in-Some.queue.now (sym c.get.ensures.value ∙ ap option_copied c.in-Some.is))

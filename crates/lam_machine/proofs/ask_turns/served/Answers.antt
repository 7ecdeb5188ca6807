use Rattle.lam_machine_effects.specs.Parts.{world_of}
use Rattle.lam_machine.proofs.AskLemmas.{serves_some}
use Rattle.lam_machine.proofs.ask_turns.served.Goals as goal

pub returns : goal.returns
returns c = serves_some (world_of c.args.stores.now c.args.threads.now) c.args.thread c.args.ask.now c.in-Some.c.now _ c.in-Some.ensures c.served_of.ensures

use Rattle.lam_machine_effects.specs.Parts.{world_of}
use Rattle.lam_machine.proofs.AskLemmas.{ready_none, ready_some}
use Rattle.lam_machine.proofs.ask_turns.asks_ready.Goals as goal

pub returns-in-None : goal.returns-in-None
returns-in-None c = ready_none (world_of c.args.stores.now c.args.threads.now) c.args.thread c.args.ask.now _ c.in-None.ensures

pub returns-in-Some : goal.returns-in-Some
returns-in-Some c = ready_some (world_of c.args.stores.now c.args.threads.now) c.args.thread c.args.ask.now _ c.in-Some.c.now c.in-Some.ensures c.is_ready.ensures

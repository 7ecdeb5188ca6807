use Rattle.std.proofs.Common.{List, true, false, refl, subst}
use Rattle.thread_steps.specs.Threads.{Thread}
use Rattle.lam_machine_effects.specs.Parts.{world_of}
use Rattle.lam_machine.specs.Asking.{IsReadiness}
use Rattle.lam_machine.proofs.AskLemmas.{waits_still, may_ask_now}
use Rattle.lam_machine.proofs.steps.answer_ask.Goals as goal

pub returns-then-not-asks_ready-clause-ok : goal.returns-then-not-asks_ready-clause-ok
returns-then-not-asks_ready-clause-ok c = λ l e. (
  waits_still c.args.code.now (world_of c.args.stores.now c.args.threads.now.items) c.args.thread c.args.ask.now c.requires.asks false
      (subst (λ (xs : List Thread). IsReadiness (world_of c.args.stores.now xs) c.args.thread c.args.ask.now false) c.as_slice.ensures.value c.if-not-asks_ready.ensures) refl,
  refl,
)

pub take_ask-requires-clause-asks : goal.take_ask-requires-clause-asks
take_ask-requires-clause-asks c =
    may_ask_now c.args.code.now (world_of c.args.stores.now c.args.threads.now.items) c.args.thread c.args.ask.now c.requires.asks true c.requires.living
    (subst (λ (xs : List Thread). IsReadiness (world_of c.args.stores.now xs) c.args.thread c.args.ask.now true) c.as_slice.ensures.value c.if-not-asks_ready.ensures) refl

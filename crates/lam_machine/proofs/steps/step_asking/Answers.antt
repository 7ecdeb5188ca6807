use Rattle.std.proofs.Common.{Option, subst}
use Rattle.lam_asks.specs.declared.answer.Answer.{Answer}
use Rattle.lam_machine_effects.specs.Parts.{world_of}
use Rattle.lam_machine.specs.Machine.{IsStep}
use Rattle.lam_machine.specs.Asking.{asked_event}
use Rattle.lam_machine.proofs.steps.step_asking.Goals as goal

pub returns-in-Ok-Some-clause-ok : goal.returns-in-Ok-Some-clause-ok
returns-in-Ok-Some-clause-ok c =
    subst (λ (o : Option Answer). IsStep c.args.code.now c.args.thread (world_of c.args.stores.now c.args.threads.now.items) (asked_event c.args.label c.args.thread c.args.ask o) (world_of c.answer_ask.new.stores c.answer_ask.new.threads.items))
    c.in-Ok-Some.field-0-is (c.in-Ok-Some.ensures.ok c.args.label c.requires.label)

pub returns-in-Ok-None-clause-ok : goal.returns-in-Ok-None-clause-ok
returns-in-Ok-None-clause-ok c =
    subst (λ (o : Option Answer). IsStep c.args.code.now c.args.thread (world_of c.args.stores.now c.args.threads.now.items) (asked_event c.args.label c.args.thread c.args.ask o) (world_of c.answer_ask.new.stores c.answer_ask.new.threads.items))
    c.in-Ok-None.field-0-is (c.in-Ok-None.ensures.ok c.args.label c.requires.label)

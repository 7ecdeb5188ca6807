use Rattle.std.proofs.Common.{sym, ◌∙◌, subst}
use Rattle.lam_machine.specs.Machine.{IsStep}
use Rattle.closed_run.proofs.DepartLemmas.{next_steps, went_on}
use Rattle.closed_run.proofs.departures.go_along.Goals as goal

pub unreachable-requires : goal.unreachable-requires
unreachable-requires c =
    let none = subst (λ o. IsStep c.args.code.now c.args.thread c.args.world.now o c.step.new.world) c.in-None.is (c.in_ok-step-in-Some.ensures.ok) in
    next_steps c.args.base.now c.args.code.now c.args.world.now c.args.slot c.in-Some.next c.args.thread (sym c.next_of.ensures ∙ c.in-Some.is) c.if-next-thread.true none.0

pub returns-in-Some-2 : goal.returns-in-Some-2
returns-in-Some-2 c =
    let turn = subst (λ o. IsStep c.args.code.now c.args.thread c.args.world.now o c.step.new.world) c.in-Some-2.is (c.in_ok-step-in-Some.ensures.ok) in
    went_on c.args.base.now c.args.code.now c.args.world.now c.args.slot c.in-Some.next c.args.thread (sym c.next_of.ensures ∙ c.in-Some.is) c.if-next-thread.true c.in-Some-2.event c.step.new.world turn c.flows-is_open.result c.flows-is_open.ensures c.slot_with.result c.slot_with.ensures

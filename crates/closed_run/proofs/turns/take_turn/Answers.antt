use Rattle.std.proofs.Common.{◌∙◌, subst}
use Rattle.lam_machine.specs.Machine.{IsStep}
use Rattle.closed_run.proofs.ReadyLemmas.{ready_steps}
use Rattle.closed_run.proofs.ReachLemmas.{takes_one}
use Rattle.closed_run.proofs.turns.take_turn.Goals as goal

pub unreachable-requires : goal.unreachable-requires
unreachable-requires g c =
    let none = subst (λ o. IsStep c.args.code.now c.args.place.slot.thread c.args.world.now o c.step.new.world) c.in-None.is c.in_ok-step.ensures.ok in
    ready_steps c.args.code.now c.args.world.now c.args.place.slot.thread c.requires.ready none.0

pub returns : goal.returns
returns g c =
    let turn = subst (λ o. IsStep c.args.code.now c.args.place.slot.thread c.args.world.now o c.step.new.world) c.in-Some.is c.in_ok-step.ensures.ok in
    takes_one (g.K.Keeps.AreKept c.args.who.now) c.args.base.now c.args.code.now c.args.place c.with_turns.result c.args.turns.now.items c.push.new.self.items c.args.world.now c.step.new.world c.args.kept.now c.keep.new.kept c.in-Some.event turn c.len-turn.result (c.len-turn.ensures ∙ c.args.turns.now.ok.0) c.in_ok-keep-in-Some.ensures c.in_ok-push.ensures.items c.flows-is_open.result c.flows-is_open.ensures c.with_turns.ensures

use Rattle.std.proofs.Common.{◌≡◌, true, subst, sym, ◌∙◌}
use Rattle.lam_machine_terms.specs.Worlds.{World}
use Rattle.lam_machine_terms.specs.Turns.{ready}
use Rattle.lam_machine_laws.specs.Turned.{IsTurn}
use Rattle.lam_machine.specs.Worlds.{IsSound}
use Rattle.lam_machine.specs.Machine.{IsStep}
use Rattle.thread_host_run.proofs.PrivateLemmas.{on_err, was_private, was_not}
use Rattle.thread_host_run.proofs.RunLemmas.{none_taken}
use Rattle.thread_host_run.proofs.one_turn.go_step.Goals as goal

pub returns-then-branch-clause-turn : goal.returns-then-branch-clause-turn
returns-then-branch-clause-turn c =
    was_private c.args.code.now c.args.thread c.args.world.now c.in_ok-step_privately.field-0 c.step_privately.new.world c.in_ok-step_privately.ensures.ok c.if-branch.true

pub step-requires : goal.step-requires
step-requires c =
    let same = was_not c.args.code.now c.args.thread c.args.world.now c.in_ok-step_privately.field-0 c.step_privately.new.world c.in_ok-step_privately.ensures.ok c.if-branch.false in
    record { sound = subst (IsSound c.args.code.now) (sym same) c.requires.sound }

pub returns-in_err-step-clause-same_world : goal.returns-in_err-step-clause-same_world
returns-in_err-step-clause-same_world c =
    let same = was_not c.args.code.now c.args.thread c.args.world.now c.in_ok-step_privately.field-0 c.step_privately.new.world c.in_ok-step_privately.ensures.ok c.if-branch.false in
    on_err c.from_residual-in_err-step.result (c.in_err-step.ensures.err ∙ same)

pub unreachable-requires : goal.unreachable-requires
unreachable-requires c =
    let same = was_not c.args.code.now c.args.thread c.args.world.now c.in_ok-step_privately.field-0 c.step_privately.new.world c.in_ok-step_privately.ensures.ok c.if-branch.false in
    let is_ready = subst (λ (w : World). ready c.args.code.now w c.args.thread ≡ true) (sym same) c.requires.ready in
    none_taken c.args.code.now c.step_privately.new.world c.args.thread is_ready (subst (λ o. IsStep c.args.code.now c.args.thread c.step_privately.new.world o c.step.new.world) c.in-None.is c.in_ok-step.ensures.ok).0

pub returns-clause-turn : goal.returns-clause-turn
returns-clause-turn c =
    let same = was_not c.args.code.now c.args.thread c.args.world.now c.in_ok-step_privately.field-0 c.step_privately.new.world c.in_ok-step_privately.ensures.ok c.if-branch.false in
    let turn = subst (λ o. IsStep c.args.code.now c.args.thread c.step_privately.new.world o c.step.new.world) c.in-Some.is c.in_ok-step.ensures.ok in
    subst (λ (w : World). IsTurn c.args.code.now c.args.thread w c.in-Some.event c.step.new.world) same turn

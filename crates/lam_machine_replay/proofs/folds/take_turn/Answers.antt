use Rattle.std.proofs.Common.{subst}
use Rattle.lam_machine.specs.Machine.{IsStep}
use Rattle.lam_machine_replay.proofs.TakesLemmas.{none_taken, turn_taken}
use Rattle.lam_machine_replay.proofs.folds.take_turn.Goals as goal

pub returns-in-None-clause-taken : goal.returns-in-None-clause-taken
returns-in-None-clause-taken g c =
    let none = subst (λ o. IsStep c.args.code.now c.args.thread c.args.world.now o c.step.new.world) c.in-None.is c.in_ok-step.ensures.ok in
    none_taken (g.K.KeepsAll.AreAllKept c.args.who.now) c.args.code.now c.args.turn c.args.world.now c.step.new.world c.args.kept.now none.1

pub returns-in_ok-keep_turn-in-Some-clause-taken : goal.returns-in_ok-keep_turn-in-Some-clause-taken
returns-in_ok-keep_turn-in-Some-clause-taken g c =
    turn_taken (g.K.KeepsAll.AreAllKept c.args.who.now) c.args.code.now c.args.thread c.args.turn c.args.world.now c.step.new.world c.in-Some.event c.args.kept.now c.keep_turn.new.kept
    (subst (λ o. IsStep c.args.code.now c.args.thread c.args.world.now o c.step.new.world) c.in-Some.is c.in_ok-step.ensures.ok) c.in_ok-keep_turn-in-Some.ensures

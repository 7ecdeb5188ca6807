use Rattle.lam_machine_replay.proofs.TakesLemmas.{privately_taken}
use Rattle.lam_machine_replay.proofs.folds.take_private.Goals as goal

pub returns-clause-taken : goal.returns-clause-taken
returns-clause-taken g c = λ turn.
    privately_taken (g.K.KeepsAll.AreAllKept c.args.who.now) c.args.code.now c.args.thread turn c.in_ok-taken.taken c.args.world.now c.step_privately_for.new.world c.args.kept.now c.keep_private.new.kept c.in_ok-taken.ensures.ok c.in_ok-keep_private.ensures

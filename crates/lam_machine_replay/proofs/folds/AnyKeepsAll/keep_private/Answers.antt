use Rattle.lam_machine.specs.Asking.{label_at}
use Rattle.lam_machine_replay.proofs.TakesLemmas.{row_left}
use Rattle.lam_machine_replay.proofs.folds.AnyKeepsAll.keep_private.Goals as goal

pub returns : goal.returns
returns g c = row_left (g.K.Keeps.AreKept c.args.self.now) c.leaves_private.ensures c.args._thread (label_at c.args._world.now c.args._thread) c.args._many c.args._kept.now

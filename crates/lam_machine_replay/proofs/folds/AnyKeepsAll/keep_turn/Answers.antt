use Rattle.std.proofs.lemmas.Result.{on_ok_weaker}
use Rattle.lam_machine_replay.proofs.TakesLemmas.{event_kept}
use Rattle.lam_machine_replay.proofs.folds.AnyKeepsAll.keep_turn.Goals as goal

pub returns : goal.returns
returns g c = on_ok_weaker c.keep.result (event_kept (g.K.Keeps.AreKept c.args.self.now) c.args.turn c.args.event c.args.world.now c.args.kept.now c.keep.new.kept) c.keep.ensures

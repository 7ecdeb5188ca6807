use Rattle.std.proofs.lemmas.Result.{on_ok_weaker}
use Rattle.lam_machine_replay.proofs.SeenLemmas.{seen_kept}
use Rattle.lam_machine_replay.proofs.observer.LabelKeepsVecSeen.keep.Goals as goal

pub returns : goal.returns
returns c = on_ok_weaker c.push_seen.result (seen_kept c.args.self.now c.args._turn c.args.event c.args.world.now c.args.kept.now.items c.push_seen.new.all.items) c.push_seen.ensures

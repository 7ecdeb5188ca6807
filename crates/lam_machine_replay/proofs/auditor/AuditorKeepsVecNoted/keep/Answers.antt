use Rattle.std.proofs.lemmas.Result.{on_ok_weaker}
use Rattle.lam_machine_replay.proofs.NotedLemmas.{noted_kept}
use Rattle.lam_machine_replay.proofs.auditor.AuditorKeepsVecNoted.keep.Goals as goal

pub returns : goal.returns
returns c = on_ok_weaker c.push_noted.result (noted_kept c.args.turn c.args.event c.args._world.now c.args.kept.now.items c.push_noted.new.all.items) c.push_noted.ensures

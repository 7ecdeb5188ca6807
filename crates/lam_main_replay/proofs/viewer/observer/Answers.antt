use Rattle.std.proofs.Common.{ap}
use Rattle.lam_main_plan.specs.Replays.{view_by}
use Rattle.lam_main_replay.proofs.RunLemmas.{no_label_reads}
use Rattle.lam_main_replay.proofs.viewer.observer.Goals as goal

pub returns-in-Ok-clause-finds : goal.returns-in-Ok-clause-finds
returns-in-Ok-clause-finds c = ap (view_by c.args.index c.args.names.now) c.in-Ok.ensures.finds

pub returns-in-Err-clause-finds : goal.returns-in-Err-clause-finds
returns-in-Err-clause-finds c = no_label_reads c.args.index c.args.names.now c.args.text.now c.in-Err.halt c.in-Err.ensures.finds

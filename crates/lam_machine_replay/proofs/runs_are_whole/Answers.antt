use Rattle.lam_machine_replay.proofs.RunLemmas.{runs_whole}
use Rattle.lam_machine_replay.proofs.runs_are_whole.Goals as goal

pub returns : goal.returns
returns c = runs_whole

use Rattle.lam_machine.proofs.CopyLemmas.{copies_live}
use Rattle.lam_machine_replay.proofs.copies_are_living.Goals as goal

pub returns : goal.returns
returns c = copies_live

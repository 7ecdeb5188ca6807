use Rattle.lam_machine_laws.proofs.OwnLemmas.{touch}
use Rattle.lam_machine_laws.proofs.turns_touch_their_thread.Goals as goal

pub returns : goal.returns
returns c = touch

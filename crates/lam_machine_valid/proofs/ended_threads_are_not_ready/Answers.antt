use Rattle.lam_machine_valid.proofs.ReadyLemmas.{not_ready}
use Rattle.lam_machine_valid.proofs.ended_threads_are_not_ready.Goals as goal

pub returns : goal.returns
returns c = not_ready

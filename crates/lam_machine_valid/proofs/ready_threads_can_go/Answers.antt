use Rattle.lam_machine_valid.proofs.ReadyLemmas.{can_go_by}
use Rattle.lam_machine_valid.proofs.ready_threads_can_go.Goals as goal

pub returns : goal.returns
returns c = can_go_by

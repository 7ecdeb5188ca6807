use Rattle.lam_machine_means.proofs.Threads.{asks_typed}
use Rattle.lam_machine_means.proofs.asks_are_typed.Goals as goal

pub returns : goal.returns
returns c = asks_typed

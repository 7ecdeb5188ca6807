use Rattle.lam_machine_valid.proofs.NextLemmas.{what_it_may}
use Rattle.lam_machine_valid.proofs.asks_what_it_may.Goals as goal

pub returns : goal.returns
returns c = what_it_may

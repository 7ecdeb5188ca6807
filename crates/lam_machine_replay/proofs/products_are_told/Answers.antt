use Rattle.lam_machine_replay.proofs.ProductLemmas.{products_told}
use Rattle.lam_machine_replay.proofs.products_are_told.Goals as goal

pub returns : goal.returns
returns c = products_told

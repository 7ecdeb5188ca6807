use Rattle.lam_machine_laws.proofs.BackLemmas.{contexts_come}
use Rattle.lam_machine_laws.proofs.contexts_come_back.Goals as goal

pub returns : goal.returns
returns c = contexts_come

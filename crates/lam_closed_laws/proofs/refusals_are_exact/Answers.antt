use Rattle.lam_closed_laws.proofs.OrderlyLemmas.{refused_exactly}
use Rattle.lam_closed_laws.proofs.refusals_are_exact.Goals as goal

pub returns : goal.returns
returns c = λ ws status old new answer. refused_exactly ws status old new answer c.plans_are_one.ensures

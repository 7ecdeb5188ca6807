use Rattle.lam_main_laws.proofs.Orderly.{refused_exactly}
use Rattle.lam_main_laws.proofs.ends.refusals_are_exact.Goals as goal

pub returns : goal.returns
returns c = refused_exactly c.refusals_are_one.ensures

use Rattle.lam_main_laws.proofs.Orderly.{makes_broken}
use Rattle.lam_main_laws.proofs.makes.broken_makes_are_recorded.Goals as goal

pub returns : goal.returns
returns c = makes_broken c.makes_are_complete.ensures

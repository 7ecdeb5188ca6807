use Rattle.lam_main_laws.proofs.Orderly.{makes_end}
use Rattle.lam_main_laws.proofs.makes.makes_end.Goals as goal

pub returns : goal.returns
returns c = makes_end c.makes_are_complete.ensures

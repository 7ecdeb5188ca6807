use Rattle.lam_main_laws.proofs.Plans.{makes_planned}
use Rattle.lam_main_laws.proofs.makes.makes_are_complete.Goals as goal

pub returns : goal.returns
returns c = makes_planned c.entries_are_functions.ensures.starts

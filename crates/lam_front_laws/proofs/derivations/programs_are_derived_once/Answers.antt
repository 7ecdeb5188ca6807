use Rattle.lam_front_laws.proofs.TheLaw.{is_derived_once}
use Rattle.lam_front_laws.proofs.derivations.programs_are_derived_once.Goals as goal

pub returns : goal.returns
returns c = is_derived_once

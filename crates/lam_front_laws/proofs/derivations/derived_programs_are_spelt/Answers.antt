use Rattle.lam_front_laws.proofs.TheLaw.{derived_is_spelt}
use Rattle.lam_front_laws.proofs.derivations.derived_programs_are_spelt.Goals as goal

pub returns : goal.returns
returns c = derived_is_spelt

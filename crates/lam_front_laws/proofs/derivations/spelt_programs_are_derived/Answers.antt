use Rattle.lam_front_laws.proofs.TheLaw.{spelt_is_derived}
use Rattle.lam_front_laws.proofs.derivations.spelt_programs_are_derived.Goals as goal

pub returns : goal.returns
returns c = spelt_is_derived

use Rattle.lam_front_laws.proofs.Again.{spelt_again}
use Rattle.lam_front_laws.proofs.laws.canonical_text_is_spelt_again.Goals as goal

pub returns : goal.returns
returns c = spelt_again

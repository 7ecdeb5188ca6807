use Rattle.pair_check_terms.proofs.PartLemmas.{parts_agree}
use Rattle.pair_check_terms.proofs.parts_make_agreement.Goals as goal

pub returns : goal.returns
returns c = parts_agree

use Rattle.pair_check_terms.proofs.PairLemmas.{look_same}
use Rattle.pair_check_terms.proofs.pairs_look_same.Goals as goal

pub returns : goal.returns
returns c = look_same

use Rattle.pair_check_terms.proofs.PairLemmas.{one_answer}
use Rattle.pair_check_terms.proofs.pairs_have_one_answer.Goals as goal

pub returns : goal.returns
returns c = one_answer

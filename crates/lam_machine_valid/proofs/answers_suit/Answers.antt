use Rattle.lam_machine_valid.proofs.SuitLemmas.{all_suit}
use Rattle.lam_machine_valid.proofs.answers_suit.Goals as goal

pub returns : goal.returns
returns c = all_suit

use Rattle.decimal_text.proofs.ExactLemmas.{numbers_are_exact}
use Rattle.decimal_text.proofs.numbers_are_exact.Goals as goal

pub returns : goal.returns
returns c = numbers_are_exact

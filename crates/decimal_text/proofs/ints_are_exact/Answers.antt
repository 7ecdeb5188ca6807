use Rattle.decimal_text.proofs.ExactLemmas.{ints_are_exact}
use Rattle.decimal_text.proofs.ints_are_exact.Goals as goal

pub returns : goal.returns
returns c = ints_are_exact

use Rattle.lam_print.proofs.TokensFit.{tokens_fit}
use Rattle.lam_print.proofs.laws.tokens_of_a_text_fit.Goals as goal

pub returns : goal.returns
returns c = tokens_fit

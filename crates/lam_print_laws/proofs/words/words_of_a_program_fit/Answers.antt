use Rattle.lam_print_laws.proofs.Whole.{words_fit}
use Rattle.lam_print_laws.proofs.words.words_of_a_program_fit.Goals as goal

pub returns : goal.returns
returns c = words_fit

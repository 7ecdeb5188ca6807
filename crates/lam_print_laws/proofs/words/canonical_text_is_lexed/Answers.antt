use Rattle.lam_print_laws.proofs.Whole.{read_again}
use Rattle.lam_print_laws.proofs.words.canonical_text_is_lexed.Goals as goal

pub returns : goal.returns
returns c = read_again

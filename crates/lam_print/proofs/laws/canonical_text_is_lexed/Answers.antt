use Rattle.lam_print.proofs.Parting.{text_law}
use Rattle.lam_print.proofs.laws.canonical_text_is_lexed.Goals as goal

pub returns : goal.returns
returns c = text_law

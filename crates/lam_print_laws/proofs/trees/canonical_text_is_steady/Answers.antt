use Rattle.lam_print_laws.proofs.Steady.{steady}
use Rattle.lam_print_laws.proofs.trees.canonical_text_is_steady.Goals as goal

pub returns : goal.returns
returns c = steady

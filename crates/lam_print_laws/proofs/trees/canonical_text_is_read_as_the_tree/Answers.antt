use Rattle.lam_print_laws.proofs.TheLaw.{way_round}
use Rattle.lam_print_laws.proofs.trees.canonical_text_is_read_as_the_tree.Goals as goal

pub returns : goal.returns
returns c = way_round

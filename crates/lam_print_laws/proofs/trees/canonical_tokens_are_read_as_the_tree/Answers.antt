use Rattle.lam_print_laws.proofs.TheLaw.{tree_law}
use Rattle.lam_print_laws.proofs.trees.canonical_tokens_are_read_as_the_tree.Goals as goal

pub returns : goal.returns
returns c = tree_law

use Rattle.world_save_laws.proofs.WholeLemmas.{trees_again}
use Rattle.world_save_laws.proofs.tree_laws.trees_are_made_again.Goals as goal

pub returns : goal.returns
returns c = trees_again

use Rattle.world_forest.proofs.ForestLemmas.{calls_keep}
use Rattle.world_forest.proofs.calls_keep_forests.Goals as goal

pub returns : goal.returns
returns c = calls_keep

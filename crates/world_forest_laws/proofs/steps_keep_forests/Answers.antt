use Rattle.world_forest_laws.proofs.StepLemmas.{steps_keep}
use Rattle.world_forest_laws.proofs.steps_keep_forests.Goals as goal

pub returns : goal.returns
returns c = steps_keep

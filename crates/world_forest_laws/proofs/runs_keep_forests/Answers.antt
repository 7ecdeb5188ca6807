use Rattle.world_forest_laws.proofs.StepLemmas.{runs_keep}
use Rattle.world_forest_laws.proofs.runs_keep_forests.Goals as goal

pub returns : goal.returns
returns c = runs_keep

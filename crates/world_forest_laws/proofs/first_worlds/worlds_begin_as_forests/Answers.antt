use Rattle.world_forest_laws.proofs.StartLemmas.{world_forest}
use Rattle.world_forest_laws.proofs.first_worlds.worlds_begin_as_forests.Goals as goal

pub returns : goal.returns
returns c = world_forest

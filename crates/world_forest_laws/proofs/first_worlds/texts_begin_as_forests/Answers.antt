use Rattle.world_forest_laws.proofs.StartLemmas.{text_forest}
use Rattle.world_forest_laws.proofs.first_worlds.texts_begin_as_forests.Goals as goal

pub returns : goal.returns
returns c = text_forest

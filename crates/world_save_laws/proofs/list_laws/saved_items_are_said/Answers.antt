use Rattle.world_save_laws.proofs.ItemLemmas.{items_said}
use Rattle.world_save_laws.proofs.list_laws.saved_items_are_said.Goals as goal

pub returns : goal.returns
returns c = items_said

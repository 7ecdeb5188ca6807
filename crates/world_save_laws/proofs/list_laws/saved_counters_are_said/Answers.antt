use Rattle.world_save_laws.proofs.CountLemmas.{counters_said}
use Rattle.world_save_laws.proofs.list_laws.saved_counters_are_said.Goals as goal

pub returns : goal.returns
returns c = counters_said

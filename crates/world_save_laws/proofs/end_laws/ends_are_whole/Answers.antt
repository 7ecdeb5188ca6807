use Rattle.world_save_laws.proofs.EndLemmas.{ends_whole}
use Rattle.world_save_laws.proofs.end_laws.ends_are_whole.Goals as goal

pub returns : goal.returns
returns c = ends_whole

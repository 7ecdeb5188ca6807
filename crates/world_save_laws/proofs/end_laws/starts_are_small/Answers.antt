use Rattle.world_save_laws.proofs.StartLemmas.{text_small}
use Rattle.world_save_laws.proofs.end_laws.starts_are_small.Goals as goal

pub returns : goal.returns
returns c = text_small

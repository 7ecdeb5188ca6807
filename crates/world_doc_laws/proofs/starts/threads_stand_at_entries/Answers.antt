use Rattle.world_doc_laws.proofs.StandLemmas.{stand}
use Rattle.world_doc_laws.proofs.starts.threads_stand_at_entries.Goals as goal

pub returns : goal.returns
returns c = stand

use Rattle.world_doc_laws.proofs.SavedLemmas.{start_read}
use Rattle.world_doc_laws.proofs.saved.saved_starts_are_read.Goals as goal

pub returns : goal.returns
returns c = start_read

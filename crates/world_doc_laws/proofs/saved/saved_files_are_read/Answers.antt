use Rattle.world_doc_laws.proofs.SavedLemmas.{files_read}
use Rattle.world_doc_laws.proofs.saved.saved_files_are_read.Goals as goal

pub returns : goal.returns
returns c = files_read

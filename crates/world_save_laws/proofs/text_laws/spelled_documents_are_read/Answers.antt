use Rattle.world_save_laws.proofs.TextLemmas.{text_read}
use Rattle.world_save_laws.proofs.text_laws.spelled_documents_are_read.Goals as goal

pub returns : goal.returns
returns c = text_read

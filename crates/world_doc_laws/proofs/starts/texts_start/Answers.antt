use Rattle.world_doc_laws.proofs.StartLemmas.{text_start}
use Rattle.world_doc_laws.proofs.starts.texts_start.Goals as goal

pub returns : goal.returns
returns c = text_start

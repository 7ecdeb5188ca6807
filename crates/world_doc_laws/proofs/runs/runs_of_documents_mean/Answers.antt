use Rattle.world_doc_laws.proofs.Starting.{documents_mean}
use Rattle.world_doc_laws.proofs.runs.runs_of_documents_mean.Goals as goal

pub returns : goal.returns
returns c = documents_mean

use Rattle.world_doc_laws.proofs.StartLemmas.{start}
use Rattle.world_doc_laws.proofs.starts.worlds_start.Goals as goal

pub returns : goal.returns
returns c = start

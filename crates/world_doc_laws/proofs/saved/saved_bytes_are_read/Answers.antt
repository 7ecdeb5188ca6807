use Rattle.world_doc_laws.proofs.DigitLemmas.{bytes_read}
use Rattle.world_doc_laws.proofs.saved.saved_bytes_are_read.Goals as goal

pub returns : goal.returns
returns c = bytes_read

use Rattle.world_save_laws.proofs.ReadLemmas.{text_read}
use Rattle.world_save_laws.proofs.read_laws.saved_texts_are_read.Goals as goal

pub returns : goal.returns
returns c = text_read

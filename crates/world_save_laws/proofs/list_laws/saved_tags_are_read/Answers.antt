use Rattle.world_save_laws.proofs.TagLemmas.{tags_read}
use Rattle.world_save_laws.proofs.list_laws.saved_tags_are_read.Goals as goal

pub returns : goal.returns
returns c = tags_read

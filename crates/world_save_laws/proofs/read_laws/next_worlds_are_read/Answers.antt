use Rattle.world_save_laws.proofs.ReadLemmas.{next_read}
use Rattle.world_save_laws.proofs.read_laws.next_worlds_are_read.Goals as goal

pub returns : goal.returns
returns c = next_read

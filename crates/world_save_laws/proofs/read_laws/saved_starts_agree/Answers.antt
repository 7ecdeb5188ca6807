use Rattle.world_save_laws.proofs.RunLemmas.{starts_agree}
use Rattle.world_save_laws.proofs.read_laws.saved_starts_agree.Goals as goal

pub returns : goal.returns
returns c = starts_agree

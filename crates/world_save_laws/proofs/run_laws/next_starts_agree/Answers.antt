use Rattle.world_save_laws.proofs.AgreeLemmas.{starts_agree}
use Rattle.world_save_laws.proofs.run_laws.next_starts_agree.Goals as goal

pub returns : goal.returns
returns c = starts_agree

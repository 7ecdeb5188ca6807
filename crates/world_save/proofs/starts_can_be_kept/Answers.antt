use Rattle.world_save.proofs.Starts.{kept}
use Rattle.world_save.proofs.starts_can_be_kept.Goals as goal

pub returns : goal.returns
returns c = kept

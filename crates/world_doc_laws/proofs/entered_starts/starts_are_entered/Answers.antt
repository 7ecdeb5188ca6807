use Rattle.world_doc_laws.proofs.Entering.{starts_entered, starts_sound}
use Rattle.world_doc_laws.proofs.entered_starts.starts_are_entered.Goals as goal

pub returns : goal.returns
returns c = record { entered = starts_entered; sound = starts_sound }

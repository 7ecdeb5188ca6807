use Rattle.source_walk_state.proofs.Begins.{delimiters_are_kept}
use Rattle.source_walk_state.proofs.walk_laws.delimiters_keep.Goals as goal

pub returns : goal.returns
returns c = delimiters_are_kept

use Rattle.source_walk_state.proofs.Begins.{walk_begins}
use Rattle.source_walk_state.proofs.walk_laws.walks_begin.Goals as goal

pub returns : goal.returns
returns c = walk_begins

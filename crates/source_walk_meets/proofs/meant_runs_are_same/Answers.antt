use Rattle.source_walk_meets.proofs.OneAnswer.{meant_same}
use Rattle.source_walk_meets.proofs.meant_runs_are_same.Goals as goal

pub returns : goal.returns
returns c = meant_same

use Rattle.source_walk_meets.proofs.Runs.{runs_have}
use Rattle.source_walk_meets.proofs.runs_have_threads.Goals as goal

pub returns : goal.returns
returns c = runs_have

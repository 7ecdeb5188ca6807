use Rattle.source_walk_meets.proofs.OneAnswer.{walks_have_one}
use Rattle.source_walk_meets.proofs.walks_have_one_answer.Goals as goal

pub returns : goal.returns
returns c = walks_have_one

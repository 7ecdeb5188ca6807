use Rattle.source_walk_go.proofs.ValueFrames.{to_throw}
use Rattle.source_walk_go.proofs.values.to_throw.Goals as goal

pub returns : goal.returns
returns c = λ s r. to_throw r s c.args.v.now c.thrown.result c.thrown.ensures

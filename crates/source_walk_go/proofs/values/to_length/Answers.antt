use Rattle.source_walk_go.proofs.ValueFrames.{to_length}
use Rattle.source_walk_go.proofs.values.to_length.Goals as goal

pub returns : goal.returns
returns c = λ s r. to_length r s c.args.v.now c.args.kind c.new_array.result c.new_array.ensures

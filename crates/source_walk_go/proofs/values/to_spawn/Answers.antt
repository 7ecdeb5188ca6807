use Rattle.source_walk_go.proofs.ValueFrames.{to_spawn}
use Rattle.source_walk_go.proofs.values.to_spawn.Goals as goal

pub returns : goal.returns
returns c = λ s r. rw c.new-done.ensures (to_spawn r s c.args.caps c.args.depth c.args.function c.args.rest)

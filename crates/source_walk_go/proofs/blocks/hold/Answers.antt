use Rattle.source_walk_parts.specs.States.{state_of}
use Rattle.source_walk_go.proofs.BlockFrames.{holds_goes}
use Rattle.source_walk_go.proofs.blocks.hold.Goals as goal

pub returns : goal.returns
returns c = λ v r. holds_goes r (state_of c.args.w.now) c.args.depth c.args.rest c.args.slot v (state_of c.push.new.w) c.in_ok-push.ensures

use Rattle.source_walk_parts.specs.States.{state_of}
use Rattle.source_walk_go.proofs.BlockFrames.{held_goes}
use Rattle.source_walk_go.proofs.values.to_held.Goals as goal

pub returns : goal.returns
returns c = λ v r. held_goes r (state_of c.args.w.now) v c.in_ok-thing.thing c.args.slot c.monitor.result c.in_ok-thing.ensures c.monitor.ensures

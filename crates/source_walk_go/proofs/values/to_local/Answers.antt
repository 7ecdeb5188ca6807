use Rattle.source_walk_parts.specs.States.{state_of}
use Rattle.source_walk_go.proofs.ValueFrames.{to_local}
use Rattle.source_walk_go.proofs.values.to_local.Goals as goal

pub returns : goal.returns
returns c = λ r. to_local r (state_of c.args.w.now) c.args.v c.args.slot (state_of c.set_local.new.w) c.set_local.ensures

use Rattle.source_walk_parts.specs.States.{state_of}
use Rattle.source_walk_go.proofs.BlockFrames.{body_ends}
use Rattle.source_walk_go.proofs.blocks.end_body.Goals as goal

pub returns : goal.returns
returns c = λ v depth x r. body_ends r (state_of c.args.w.now) depth x v c.args.outside c.act.result (state_of c.restore.new.w) c.act.ensures c.restore.ensures

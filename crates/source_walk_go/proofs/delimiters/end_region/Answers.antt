use Rattle.source_walk_parts.specs.States.{state_of}
use Rattle.source_walk_go.proofs.DelimiterFrames.{catch_ends}
use Rattle.source_walk_go.proofs.delimiters.end_region.Goals as goal

pub returns : goal.returns
returns c = λ v r. catch_ends r (state_of c.args.w.now) v c.args.outside c.act.result (state_of c.restore.new.w) c.act.ensures c.restore.ensures

use Rattle.source_walk_parts.specs.States.{state_of}
use Rattle.source_walk_go.proofs.DelimiterFrames.{suppresses}
use Rattle.source_walk_go.proofs.delimiters.suppress.Goals as goal

pub returns : goal.returns
returns c = λ r. suppresses r (state_of c.args.w.now) c.args.fault c.args.outside c.act.result (state_of c.restore.new.w) c.act.ensures c.restore.ensures

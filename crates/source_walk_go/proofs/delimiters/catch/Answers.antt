use Rattle.source_walk_parts.specs.States.{state_of}
use Rattle.source_walk_go.proofs.DelimiterFrames.{catches_goes}
use Rattle.source_walk_go.proofs.delimiters.catch.Goals as goal

pub returns : goal.returns
returns c = λ r. catches_goes r (state_of c.args.w.now) c.args.fault c.args.depth c.args.region c.args.outside c.act.result (state_of c.push.new.w) c.act.ensures c.in_ok-push.ensures

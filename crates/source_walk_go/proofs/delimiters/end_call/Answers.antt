use Rattle.source_walk_parts.specs.States.{state_of}
use Rattle.source_walk_go.proofs.DelimiterFrames.{call_ends}
use Rattle.source_walk_go.proofs.delimiters.end_call.Goals as goal

pub returns : goal.returns
returns c = λ v r. call_ends r (state_of c.args.w.now) v c.args.calls c.args.locals (state_of c.return_to.new.w) c.return_to.ensures

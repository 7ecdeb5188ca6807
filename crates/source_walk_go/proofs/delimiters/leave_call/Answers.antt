use Rattle.source_walk_parts.specs.States.{state_of}
use Rattle.source_walk_go.proofs.DelimiterFrames.{leave_call}
use Rattle.source_walk_go.proofs.delimiters.leave_call.Goals as goal

pub returns : goal.returns
returns c = λ r. leave_call r (state_of c.args.w.now) c.args.v c.args.calls c.args.locals (state_of c.return_to.new.w) c.return_to.ensures

use Rattle.source_walk_parts.specs.States.{state_of}
use Rattle.source_walk_go.proofs.DelimiterFrames.{raise_call}
use Rattle.source_walk_go.proofs.delimiters.fail_call.Goals as goal

pub returns : goal.returns
returns c = λ r. raise_call r (state_of c.args.w.now) c.args.fault c.args.calls c.args.locals (state_of c.return_to.new.w) c.return_to.ensures

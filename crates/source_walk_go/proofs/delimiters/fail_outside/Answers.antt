use Rattle.source_walk_parts.specs.States.{state_of}
use Rattle.source_walk_go.proofs.DelimiterFrames.{raise_outside}
use Rattle.source_walk_go.proofs.delimiters.fail_outside.Goals as goal

pub returns : goal.returns
returns c = λ depth x g r. raise_outside r (state_of c.args.w.now) c.args.fault depth x g c.args.outside (state_of c.go_to.new.w) c.go_to.ensures

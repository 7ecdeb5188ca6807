use Rattle.source_walk_parts.specs.States.{state_of}
use Rattle.source_walk_go.proofs.DelimiterFrames.{leave_held}
use Rattle.source_walk_go.proofs.delimiters.give_back.Goals as goal

pub returns-in-Ok : goal.returns-in-Ok
returns-in-Ok c = λ r. leave_held r (state_of c.args.w.now) c.args.slot c.args.v c.in_ok-thing.thing c.monitor-control.result (state_of c.wait_if_asked.new.w) c.in_ok-thing.ensures c.monitor-control.ensures c.in-Ok.ensures

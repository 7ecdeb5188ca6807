use Rattle.source_walk_parts.proofs.Steps.{if_ok}
use Rattle.source_walk_parts.specs.States.{state_of}
use Rattle.source_walk_go.proofs.Waiting.{by_frame}
use Rattle.source_walk_go.proofs.delimiters.leave_to.Goals as goal

pub returns-in-Held : goal.returns-in-Held
returns-in-Held c = if_ok c.give_back.result _ _ c.give_back.ensures (λ d h r. by_frame (state_of c.args.w.now) c.in-Held.is (h r))

pub returns-in-Called : goal.returns-in-Called
returns-in-Called c = λ r. by_frame (state_of c.args.w.now) c.in-Called.is (c.leave_call.ensures r)

pub returns-in_default : goal.returns-in_default
returns-in_default c = λ r. c.leave_past-control.ensures (state_of c.args.w.now) c.in_default.not-Held c.in_default.not-Called r

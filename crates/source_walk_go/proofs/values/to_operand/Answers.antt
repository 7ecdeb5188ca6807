use Rattle.source_walk_parts.proofs.Steps.{if_ok}
use Rattle.source_walk_parts.specs.States.{state_of}
use Rattle.source_walk_go.proofs.ValueFrames.{plain_op, to_operand, and_by, or_by}
use Rattle.source_walk_go.proofs.values.to_operand.Goals as goal

pub returns-in-And : goal.returns-in-And
returns-in-And c = λ r. and_by r (state_of c.args.w.now) c.args.depth c.args.e c.args.v c.args.op c.to_and-control.result c.in-And.is c.to_and-control.ensures

pub returns-in-Or : goal.returns-in-Or
returns-in-Or c = λ r. or_by r (state_of c.args.w.now) c.args.depth c.args.e c.args.v c.args.op c.to_or-control.result c.in-Or.is c.to_or-control.ensures

pub returns-in_default : goal.returns-in_default
returns-in_default c = if_ok c.wait.result _ _ c.wait.ensures (λ d w r. to_operand r (state_of c.args.w.now) c.args.v c.args.depth c.args.e c.args.op (plain_op r (state_of c.args.w.now) c.args.v c.args.op c.in_default.not-And c.in_default.not-Or) w)

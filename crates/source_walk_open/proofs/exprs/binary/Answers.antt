use Rattle.source_walk_parts.proofs.Steps.{if_ok}
use Rattle.source_walk_parts.specs.States.{state_of}
use Rattle.source_walk_open.proofs.ExprForms.{binary_opens}
use Rattle.source_walk_open.proofs.exprs.binary.Goals as goal

pub returns : goal.returns
returns c = if_ok c.wait.result _ _ c.wait.ensures (λ d w. binary_opens (state_of c.args.w.now) c.args.depth c.args.op c.args.left c.args.right w)

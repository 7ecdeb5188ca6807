use Rattle.source_walk_parts.proofs.Steps.{if_ok}
use Rattle.source_walk_parts.specs.States.{state_of}
use Rattle.source_walk_open.proofs.ExprForms.{args_open}
use Rattle.source_walk_open.proofs.exprs.next_arg.Goals as goal

pub returns : goal.returns
returns c = if_ok c.wait.result _ _ c.wait.ensures (λ d w. args_open (state_of c.args.w.now) c.args.depth c.args.first c.args.rest c.args.done c.args.using w)

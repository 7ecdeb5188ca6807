use Rattle.source_walk_parts.specs.States.{state_of}
use Rattle.source_walk_open.proofs.ExprForms.{local_opens}
use Rattle.source_walk_open.proofs.exprs.local.Goals as goal

pub returns : goal.returns
returns c = λ depth. rw c.in_ok-local_of.ensures (local_opens (state_of c.args.w.now) depth c.args.slot)

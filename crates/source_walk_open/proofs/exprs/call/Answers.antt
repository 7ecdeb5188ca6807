use Rattle.source_walk_open.proofs.ExprForms.{call_opens}
use Rattle.source_walk_open.proofs.exprs.call.Goals as goal

pub returns : goal.returns
returns c = λ s. rw c.new-done.ensures (call_opens s c.args.depth c.args.function c.args.rest)

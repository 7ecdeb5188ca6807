use Rattle.source_walk_open.proofs.ExprForms.{label_opens}
use Rattle.source_walk_open.proofs.exprs.label.Goals as goal

pub returns : goal.returns
returns c = λ s. rw c.new-done.ensures (label_opens s c.args.depth c.args.rest c.args.vouchers)

use Rattle.source_walk_open.proofs.ExprForms.{text_opens}
use Rattle.source_walk_open.proofs.exprs.text.Goals as goal

pub returns : goal.returns
returns c = λ depth s. rw c.in_ok-bytes.ensures (text_opens s depth c.args.bytes.now)

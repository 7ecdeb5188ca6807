use Rattle.thread_core_ops.proofs.Many.{null_left, null_right}
use Rattle.thread_core_ops.proofs.operators.have_null.Goals as goal

pub returns-then-some_null : goal.returns-then-some_null
returns-then-some_null c = null_left c.args.secrets.now c.args.vouchers.now c.some_null.result c.some_null.ensures c.if-some_null.true

pub returns-else-some_null : goal.returns-else-some_null
returns-else-some_null c =
    null_right c.args.secrets.now c.args.vouchers.now c.some_null.result c.some_null-else-some_null.result c.some_null.ensures c.if-some_null.false
    c.some_null-else-some_null.ensures

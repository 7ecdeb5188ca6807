use Rattle.std.proofs.Common.{◌≡◌, ◌++◌, true, false, sym}
use Rattle.std.specs.Prelude.{◌&&◌, is_some}
use Rattle.thread_steps.specs.Operators.{some_null, tags_in}
use Rattle.thread_core_ops.proofs.Many.{label_null, label_fine, label_wrong}
use Rattle.thread_core_ops.proofs.operators.label_from.Goals as goal

pub returns-then-have_null : goal.returns-then-have_null
returns-then-have_null c =
    let e : some_null (c.args.secrets.now ++ c.args.vouchers.now) ≡ true = cc in
    sym (label_null c.args.secrets.now c.args.vouchers.now e)

pub returns-then-are_all_tags : goal.returns-then-are_all_tags
returns-then-are_all_tags c =
    let e : some_null (c.args.secrets.now ++ c.args.vouchers.now) ≡ false = cc in
    let f : (is_some (tags_in c.args.secrets.now) && is_some (tags_in c.args.vouchers.now)) ≡ true = cc in
    sym (label_fine c.args.secrets.now c.args.vouchers.now e f)

pub returns-else-are_all_tags : goal.returns-else-are_all_tags
returns-else-are_all_tags c =
    let e : some_null (c.args.secrets.now ++ c.args.vouchers.now) ≡ false = cc in
    let f : (is_some (tags_in c.args.secrets.now) && is_some (tags_in c.args.vouchers.now)) ≡ false = cc in
    sym (label_wrong c.args.secrets.now c.args.vouchers.now e f)

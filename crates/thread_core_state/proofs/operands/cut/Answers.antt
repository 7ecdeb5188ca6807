use Rattle.std.proofs.Common.{◌≡◌, ◌-◌, length, arith}
use Rattle.thread_core_state.proofs.Ends.{cut_reversed}
use Rattle.thread_core_state.proofs.operands.cut.Goals as goal

pub returns : goal.returns
returns c =
    let e : c.saturating_sub.result ≡ length c.args.items.now.items - c.args.count = omega arith in
    rw (c.truncate.ensures.items, e) (cut_reversed c.args.count c.args.items.now.items)

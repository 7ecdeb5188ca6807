use Rattle.std.proofs.Common.{◌≡◌, ◌∙◌, ap, length, min, arith}
use Rattle.thread_core_state.specs.Seen.{filled_to}
use Rattle.thread_core_state.proofs.Ends.{cut_within, end_within}
use Rattle.thread_core_state.proofs.operands.taken.Goals as goal

pub returns-clause-ok : goal.returns-clause-ok
returns-clause-ok c =
    let m : c.min-count.result ≡ min c.args.count (length c.args.items.now.items) = omega arith in
    rw c.move_last.ensures.items (cut_within c.args.items.now.items c.args.count c.min-count.result m)

pub returns-clause-taken : goal.returns-clause-taken
returns-clause-taken c =
    let m : c.min-count.result ≡ min c.args.count (length c.args.items.now.items) = omega arith in
    c.fill.ensures ∙ ap (filled_to c.args.size) (c.move_last.ensures.out ∙ end_within c.args.items.now.items c.args.count c.min-count.result m)

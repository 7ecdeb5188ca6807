use Rattle.std.proofs.Common.{arith}
use Rattle.std.proofs.lemmas.Result.{err_from_is_err_and}
use Rattle.lam_types_kinds.specs.Values.{names}
use Rattle.lam_types_exprs.proofs.Loops.{caps_stop}
use Rattle.lam_types_exprs.proofs.check_caps.Goals as goal

pub returns-in_err-check_cap : goal.returns-in_err-check_cap
returns-in_err-check_cap c =
    let p = err_from_is_err_and c.from_residual.result c.from_residual.ensures.1 in
    rw (p.1, p.2) (caps_stop c.in_err-check_cap.field-0.0 (names c.args.env.now.entries) c.args.items.now c.loop-item.item-index c.item-item.result _ (omega arith) c.item-item.is c.loop-item.invariant c.in_err-check_cap.ensures)

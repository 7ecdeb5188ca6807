use Rattle.std.proofs.Common.{arith}
use Rattle.std.proofs.lemmas.Result.{err_from_is_err_and}
use Rattle.lam_types_kinds.specs.Values.{decls, names}
use Rattle.lam_types_kinds.proofs.TableLemmas.{vars_stop}
use Rattle.lam_types_kinds.proofs.tables.known_vars.Goals as goal

pub returns-in_err-add_var : goal.returns-in_err-add_var
returns-in_err-add_var c =
    let p = err_from_is_err_and c.from_residual.result c.from_residual.ensures.1 in
    rw (p.1, p.2) (vars_stop c.in_err-add_var.field-0.0 (decls c.args.known.now) c.args.limit (names c.loop-v.all.entries) c.args.vars.now c.loop-v.v-index c.v-item.result _ (omega arith) c.v-item.is c.loop-v.invariant c.in_err-add_var.ensures)

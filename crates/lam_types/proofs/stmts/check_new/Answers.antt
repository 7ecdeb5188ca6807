use Rattle.std.proofs.lemmas.Result.{err_from_is_err_and}
use Rattle.lam_syntax.specs.Tree.{id_tree}
use Rattle.lam_types.proofs.Pieces.{on_ok, local_stop, local_rest, local_absent}
use Rattle.lam_types.proofs.stmts.check_new.Goals as goal

pub returns-in_err-fresh_name-clause-meets : goal.returns-in_err-fresh_name-clause-meets
returns-in_err-fresh_name-clause-meets c =
    let p = err_from_is_err_and c.from_residual.result c.from_residual.ensures.1 in
    rw (p.1, p.2) (local_stop c.in_err-fresh_name.field-0.0 c.args.env.now.entries c.args.c (id_tree c.args.x.now) c.in_err-fresh_name.ensures)

pub returns-clause-meets : goal.returns-clause-meets
returns-clause-meets c = local_rest c.count_slot.result c.args.env.now.entries c.args.c (id_tree c.args.x.now) c.in_ok-fresh_name.ensures c.count_slot.ensures

pub returns-clause-absent : goal.returns-clause-absent
returns-clause-absent c = on_ok c.count_slot.result _ (local_absent c.args.env.now.entries (id_tree c.args.x.now) c.in_ok-fresh_name.ensures)

use Rattle.std.proofs.Common.{refl, None}
use Rattle.std.proofs.lemmas.Result.{err_from_is_err_and}
use Rattle.lam_syntax.specs.Tree.{expr_tree}
use Rattle.lam_types_kinds.specs.Values.{decls, option_type, given}
use Rattle.lam_types.proofs.Arms
use Rattle.lam_types.proofs.stmts.check_assign.Goals as goal

pub returns-in_err-got : goal.returns-in_err-got
returns-in_err-got c =
    let p = err_from_is_err_and c.from_residual.result c.from_residual.ensures.1 in
    rw (p.1, p.2) (Arms.assign_first (decls c.args.known.now) None c.args.c 0 _ c.args.env.now.entries c.in_err-got.field-0.0 (expr_tree c.args.place.now) (expr_tree c.args.value.now) refl c.in_err-got.ensures)

pub returns-in_err-check_assigned : goal.returns-in_err-check_assigned
returns-in_err-check_assigned c =
    let p = err_from_is_err_and c.from_residual-in_err-check_assigned.result c.from_residual-in_err-check_assigned.ensures.1 in
    rw (p.1, p.2) (Arms.assign_second (decls c.args.known.now) None c.args.c 0 _ c.args.env.now.entries c.in_err-check_assigned.field-0.0 (given c.in_ok-got.got) (option_type c.type_before.result) (expr_tree c.args.place.now) (expr_tree c.args.value.now) refl c.in_ok-got.ensures c.type_before.ensures c.in_err-check_assigned.ensures)

pub returns : goal.returns
returns c = Arms.assign_done (decls c.args.known.now) None c.args.c 0 _ c.args.env.now.entries (given c.in_ok-got.got) (option_type c.type_before.result) (expr_tree c.args.place.now) (expr_tree c.args.value.now) refl c.in_ok-got.ensures c.type_before.ensures c.in_ok-check_assigned.ensures

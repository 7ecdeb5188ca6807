use Rattle.std.proofs.Common.{refl, None}
use Rattle.std.proofs.lemmas.Result.{err_from_is_err_and}
use Rattle.lam_syntax.specs.Tree.{expr_tree}
use Rattle.lam_types_kinds.specs.Values.{decls}
use Rattle.lam_types.proofs.Arms
use Rattle.lam_types.proofs.stmts.check_do.Goals as goal

pub returns-in_err-check_expr : goal.returns-in_err-check_expr
returns-in_err-check_expr c =
    let p = err_from_is_err_and c.from_residual.result c.from_residual.ensures.1 in
    rw (p.1, p.2) (Arms.do_arm (decls c.args.known.now) None c.args.c 0 _ c.args.env.now.entries c.in_err-check_expr.field-0.0 (expr_tree c.args.e.now) refl c.in_err-check_expr.ensures)

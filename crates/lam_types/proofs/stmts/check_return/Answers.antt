use Rattle.std.proofs.Common.{refl}
use Rattle.std.proofs.lemmas.Result.{err_from_is_err_and}
use Rattle.lam_syntax.specs.Tree.{option_expr_tree}
use Rattle.lam_types_kinds.specs.Values.{decls, option_type}
use Rattle.lam_types.proofs.Arms
use Rattle.lam_types.proofs.stmts.check_return.Goals as goal

pub returns-in_err-check_returned : goal.returns-in_err-check_returned
returns-in_err-check_returned c =
    let p = err_from_is_err_and c.from_residual.result c.from_residual.ensures.1 in
    rw (p.1, p.2) (Arms.return_arm (decls c.args.known.now) (option_type c.args.want) c.args.c c.args.at _ c.args.env.now.entries c.in_err-check_returned.field-0.0 (option_expr_tree c.args.value.now) refl c.in_err-check_returned.ensures)

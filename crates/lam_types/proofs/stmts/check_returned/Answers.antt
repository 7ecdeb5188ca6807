use Rattle.std.proofs.Common.{ap}
use Rattle.std.proofs.lemmas.Result.{err_from_is_err_and}
use Rattle.lam_syntax.specs.Tree.{expr_tree, option_expr_tree}
use Rattle.lam_types_kinds.specs.Values.{decls, names, option_type}
use Rattle.lam_types.proofs.Pieces.{return_stop}
use Rattle.lam_types.proofs.stmts.check_returned.Goals as goal

pub returns-in_err-got-in-None-want-2 : goal.returns-in_err-got-in-None-want-2
returns-in_err-got-in-None-want-2 c =
    let p = err_from_is_err_and c.from_residual.result c.from_residual.ensures.1 in
    rw (p.1, p.2) (return_stop c.in_err-got-in-None-want-2.field-0.0 (decls c.args.known.now) (names c.args.env.now.entries) c.args.at (option_type c.args.want) (option_expr_tree c.args.value.now) (expr_tree c.in-Some.e) (ap option_type c.in-None-want-2.is) (ap option_expr_tree c.in-Some.is) c.in_err-got-in-None-want-2.ensures)

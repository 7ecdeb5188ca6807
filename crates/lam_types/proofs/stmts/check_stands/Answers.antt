use Rattle.std.proofs.lemmas.Result.{err_from_is_err_and}
use Rattle.lam_syntax.specs.Tree.{expr_tree}
use Rattle.lam_types_kinds.specs.Values.{decls, names, place}
use Rattle.lam_types_kinds.proofs.Steps.{stops}
use Rattle.lam_types_exprs.specs.Exprs.{at_of, placed, given_of}
use Rattle.lam_types.specs.Stmts.{stands}
use Rattle.lam_types.proofs.stmts.check_stands.Goals as goal

pub returns-in_err-check_at : goal.returns-in_err-check_at
unfolding stands
returns-in_err-check_at c =
    let p = err_from_is_err_and c.from_residual.result c.from_residual.ensures.1 in
    rw (p.1, p.2) (stops c.in_err-check_at.field-0.0 (placed (at_of (expr_tree c.args.e.now)) (place c.args.want) (given_of (decls c.args.known.now) (names c.args.env.now.entries) (expr_tree c.args.e.now))) _ c.in_err-check_at.ensures)

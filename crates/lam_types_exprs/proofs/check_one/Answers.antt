use Rattle.lam_syntax.specs.Tree.{expr_tree}
use Rattle.lam_types_kinds.specs.Values.{decls, names}
use Rattle.lam_types_exprs.proofs.Law.{ok_is_given, given_is_ok}
use Rattle.lam_types_exprs.proofs.check_one.Goals as goal

pub returns-clause-typed : goal.returns-clause-typed
returns-clause-typed c = ok_is_given c.check_expr.result (decls c.args.known.now) (names c.args.env.now.entries) (expr_tree c.args.e.now) c.check_expr.ensures

pub returns-clause-only : goal.returns-clause-only
returns-clause-only c = λ g h. given_is_ok c.check_expr.result (decls c.args.known.now) (names c.args.env.now.entries) (expr_tree c.args.e.now) g c.check_expr.ensures h

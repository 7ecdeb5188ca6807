use Rattle.std.proofs.Common.{ap}
use Rattle.lam_syntax.specs.Tree.{expr_tree}
use Rattle.lam_resolve_tree.specs.Tree.{expr_tree as resolved_expr}
use Rattle.lam_resolve_tables.specs.Tables.{tables}
use Rattle.lam_resolve_exprs.specs.Values.{locals, value}
use Rattle.lam_resolve_stmts.proofs.RegionArms.{expr_done}
use Rattle.lam_resolve_stmts.proofs.regions.boxed_expr.Goals as goal

pub returns : goal.returns
returns c = expr_done (tables c.args.t.now) (locals c.args.scope.now) (expr_tree c.args.e.now) (value c.in_ok-v.v) (resolved_expr c.in_ok-it.it.value) c.in_ok-v.ensures (ap resolved_expr c.in_ok-it.ensures.ok)

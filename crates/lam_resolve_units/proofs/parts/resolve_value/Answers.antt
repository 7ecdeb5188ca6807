use Rattle.std.proofs.Common.{ap}
use Rattle.lam_syntax.specs.Tree.{expr_tree, option_expr_tree}
use Rattle.lam_resolve_tables.specs.Tables.{tables}
use Rattle.lam_resolve_exprs.specs.Values.{locals, value}
use Rattle.lam_resolve_units.proofs.PartSteps.{value_some, value_done}
use Rattle.lam_resolve_units.proofs.parts.resolve_value.Goals as goal

pub resolve_expr-requires : goal.resolve_expr-requires
resolve_expr-requires c = value_some (tables c.args.t.now) (locals c.args.scope.now) (option_expr_tree c.args.value.now) (expr_tree c.in-Some.e) (ap option_expr_tree c.in-Some.is) c.requires

pub returns-in_ok-v-in-Some : goal.returns-in_ok-v-in-Some
returns-in_ok-v-in-Some c =
    value_done (tables c.args.t.now) (locals c.args.scope.now) (option_expr_tree c.args.value.now) (expr_tree c.in-Some.e) (value c.in_ok-v-in-Some.v) (ap option_expr_tree c.in-Some.is) c.in_ok-v-in-Some.ensures

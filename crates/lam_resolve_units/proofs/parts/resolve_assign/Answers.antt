use Rattle.lam_syntax.specs.Tree.{expr_tree}
use Rattle.lam_resolve_tables.specs.Tables.{tables}
use Rattle.lam_resolve_exprs.specs.Values.{locals, value}
use Rattle.lam_resolve_tree.specs.Tree.{stmt_tree}
use Rattle.lam_resolve_units.proofs.PartSteps.{assign_place, assign_value, assign_needs, assign_done}
use Rattle.lam_resolve_units.proofs.parts.resolve_assign.Goals as goal

pub resolve_expr-requires : goal.resolve_expr-requires
resolve_expr-requires c = assign_place (tables c.args.t.now) (locals c.args.scope.now) (expr_tree c.args.place.now) (expr_tree c.args.value.now) c.requires

pub resolve_expr-requires-2 : goal.resolve_expr-requires-2
resolve_expr-requires-2 c = assign_value (tables c.args.t.now) (locals c.args.scope.now) (expr_tree c.args.place.now) (expr_tree c.args.value.now) (value c.in_ok-place.place) c.in_ok-place.ensures c.requires

pub assignment-requires : goal.assignment-requires
assignment-requires c =
    assign_needs (tables c.args.t.now) (locals c.args.scope.now) (expr_tree c.args.place.now) (expr_tree c.args.value.now) (value c.in_ok-place.place) (value c.in_ok-value.value) c.in_ok-place.ensures c.in_ok-value.ensures c.requires

pub returns : goal.returns
returns c =
    assign_done (tables c.args.t.now) (locals c.args.scope.now) (expr_tree c.args.place.now) (expr_tree c.args.value.now) (value c.in_ok-place.place) (value c.in_ok-value.value) (stmt_tree c.assignment.result) c.in_ok-place.ensures c.in_ok-value.ensures c.assignment.ensures

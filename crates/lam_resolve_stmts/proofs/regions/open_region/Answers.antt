use Rattle.std.proofs.Common.{ap, ◌∙◌, Some, is_some}
use Rattle.lam_syntax.specs.Tree.{expr_tree, ids_tree}
use Rattle.lam_resolve_tree.specs.Tree.{expr_tree as resolved_expr}
use Rattle.lam_resolve_laws.specs.Resolved.{then_some, enter_region}
use Rattle.lam_resolve_tables.specs.Tables.{tables}
use Rattle.lam_resolve_exprs.specs.Values.{locals}
use Rattle.lam_resolve_units.specs.Seen.{entered, entered_by}
use Rattle.lam_resolve_stmts.proofs.RegionArms
use Rattle.lam_resolve_stmts.proofs.regions.open_region.Goals as goal

pub boxed_expr-requires : goal.boxed_expr-requires
boxed_expr-requires c = RegionArms.opens_label (tables c.args.t.now) (locals c.args.scope.now) c.args.number (expr_tree c.args.written.label.now) (expr_tree c.args.written.caps.now) (ids_tree c.args.written.captures.now.items) c.requires

pub boxed_expr-requires-2 : goal.boxed_expr-requires-2
boxed_expr-requires-2 c = RegionArms.opens_caps (tables c.args.t.now) (locals c.args.scope.now) c.args.number (expr_tree c.args.written.label.now) (expr_tree c.args.written.caps.now) (ids_tree c.args.written.captures.now.items) c.requires

pub enter-requires : goal.enter-requires
enter-requires c = ap (λ l. is_some (enter_region c.args.number (locals c.args.scope.now) (ids_tree l))) c.as_slice.ensures.value ∙ RegionArms.opens_captures (tables c.args.t.now) (locals c.args.scope.now) c.args.number (expr_tree c.args.written.label.now) (expr_tree c.args.written.caps.now) (ids_tree c.args.written.captures.now.items) c.requires

pub returns : goal.returns
returns c =
    RegionArms.opens_done (tables c.args.t.now) (locals c.args.scope.now) c.args.number (expr_tree c.args.written.label.now) (expr_tree c.args.written.caps.now) (ids_tree c.args.written.captures.now.items) (entered c.in_ok-entered.entered) (resolved_expr c.in_ok-label.label.value) (resolved_expr c.in_ok-caps.caps.value) c.in_ok-label.ensures c.in_ok-caps.ensures
    (c.in_ok-entered.ensures ∙ ap (λ l. then_some (enter_region c.args.number (locals c.args.scope.now) (ids_tree l)) (λ cs. Some (entered_by cs c.args.number))) c.as_slice.ensures.value)

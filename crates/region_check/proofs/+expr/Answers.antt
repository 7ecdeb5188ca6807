use Rattle.std.proofs.Common.{ap, ◌∙◌}
use Rattle.std.proofs.lemmas.Result.{err_from_is_err_and}
use Rattle.lam_syntax.proofs.Rows.{call_row, label_row, spawn_row}
use Rattle.lam_syntax.specs.Tree.{expr_form, exprs_tree, id_tree, label_expr, call_expr}
use Rattle.region_check.specs.Breaks.{exprs_checked}
use Rattle.region_check.specs.Values.{texts}
use Rattle.region_check.proofs.Arms.{passes_form, breaks_form, then_passes, spawn_rest}
use Rattle.region_check.proofs.Steps.{stops}
use Rattle.region_check.proofs.+expr.Goals as goal

pub check_expr-returns-in_err-check_exprs-in-LabelOf : goal.check_expr-returns-in_err-check_exprs-in-LabelOf
check_expr-returns-in_err-check_exprs-in-LabelOf t c =
    let p = err_from_is_err_and c.from_residual-in_err-check_exprs-in-LabelOf.result c.from_residual-in_err-check_exprs-in-LabelOf.ensures.1 in
    rw (p.1, p.2) (breaks_form c.args.inside (texts c.args.own.now.keys) c.args.e.now.at (expr_form c.args.e.now.kind) (label_expr (exprs_tree c.in-LabelOf.s.items) (exprs_tree c.in-LabelOf.i.items)) c.in_err-check_exprs-in-LabelOf.field-0.0 (ap expr_form c.in-LabelOf.is ∙ label_row c.in-LabelOf.s c.in-LabelOf.i) (stops c.in_err-check_exprs-in-LabelOf.field-0.0 (exprs_checked c.args.inside (texts c.args.own.now.keys) (exprs_tree c.in-LabelOf.s.items)) _ c.in_err-check_exprs-in-LabelOf.ensures))

pub check_expr-returns-in-Call : goal.check_expr-returns-in-Call
check_expr-returns-in-Call t c =
    passes_form c.args.inside (texts c.args.own.now.keys) c.args.e.now.at (expr_form c.args.e.now.kind) (call_expr (id_tree c.in-Call.name) (exprs_tree c.in-Call.args.items)) c.check_exprs.result (ap expr_form c.in-Call.is ∙ call_row c.in-Call.name c.in-Call.args) c.check_exprs.ensures

pub check_expr-returns-in_ok-check_exprs-in-LabelOf : goal.check_expr-returns-in_ok-check_exprs-in-LabelOf
check_expr-returns-in_ok-check_exprs-in-LabelOf t c =
    passes_form c.args.inside (texts c.args.own.now.keys) c.args.e.now.at (expr_form c.args.e.now.kind) (label_expr (exprs_tree c.in-LabelOf.s.items) (exprs_tree c.in-LabelOf.i.items)) c.check_exprs-in-LabelOf-2.result (ap expr_form c.in-LabelOf.is ∙ label_row c.in-LabelOf.s c.in-LabelOf.i)
    (then_passes c.check_exprs-in-LabelOf-2.result (exprs_checked c.args.inside (texts c.args.own.now.keys) (exprs_tree c.in-LabelOf.s.items)) (exprs_checked c.args.inside (texts c.args.own.now.keys) (exprs_tree c.in-LabelOf.i.items)) c.in_ok-check_exprs-in-LabelOf.ensures c.check_exprs-in-LabelOf-2.ensures)

pub check_expr-returns-in_ok-check_expr-in-Spawn : goal.check_expr-returns-in_ok-check_expr-in-Spawn
check_expr-returns-in_ok-check_expr-in-Spawn t c =
    spawn_rest c.args.inside (texts c.args.own.now.keys) c.args.e.now.at (expr_form c.args.e.now.kind) c.check_exprs-in-Spawn.result c.deref-in-Spawn.result.now c.in-Spawn.caps.value (id_tree c.in-Spawn.function.value) (exprs_tree c.in-Spawn.args.items) (ap expr_form c.in-Spawn.is ∙ spawn_row c.in-Spawn.caps c.in-Spawn.function c.in-Spawn.args)
    c.deref-in-Spawn.ensures c.in_ok-check_expr-in-Spawn.ensures c.check_exprs-in-Spawn.ensures

use Rattle.std.proofs.Common.{rules, ap, refl, ◌∙◌}
use Rattle.lam_syntax.specs.Tree.{call_expr, label_expr, spawn_expr, id_tree, expr_tree, exprs_tree, expr_form}
use Rattle.lam_syntax.specs.Unplaced.{unplaced_expr_form}
use Rattle.lam_syntax.proofs.Lists.{same_lengths, test_moved}
use Rattle.lam_syntax.proofs.Rows.{call_row, label_row, spawn_row}
use Rattle.lam_syntax.proofs.Views.{unplaced_exprs-list}
use Rattle.lam_sameness.proofs.+same_expr.Goals as goal

pub same_expr_kind-returns-in-Call : goal.same_expr_kind-returns-in-Call
same_expr_kind-returns-in-Call t c =
    test_moved unplaced_expr_form {b = expr_form c.args.b.now} (ap expr_form c.in-Call.is ∙ call_row c.in-Call.name c.in-Call.args) refl (search rules)

pub same_expr_kind-returns-in-LabelOf : goal.same_expr_kind-returns-in-LabelOf
same_expr_kind-returns-in-LabelOf t c =
    test_moved unplaced_expr_form {b = expr_form c.args.b.now} (ap expr_form c.in-LabelOf.is ∙ label_row c.in-LabelOf.s c.in-LabelOf.i) refl (search rules)

pub same_expr_kind-returns-in-Spawn : goal.same_expr_kind-returns-in-Spawn
same_expr_kind-returns-in-Spawn t c =
    test_moved unplaced_expr_form {b = expr_form c.args.b.now} (ap expr_form c.in-Spawn.is ∙ spawn_row c.in-Spawn.caps c.in-Spawn.function c.in-Spawn.args) refl (search rules)

pub same_call-returns-then-same_id : goal.same_call-returns-then-same_id
same_call-returns-then-same_id t c =
    test_moved unplaced_expr_form {a = call_expr (id_tree c.args.name.now) (exprs_tree c.args.args.now)} refl (ap expr_form c.in-Call.is ∙ call_row c.in-Call.x c.in-Call.es) (search rules)

pub same_label-returns-then-same_exprs : goal.same_label-returns-then-same_exprs
same_label-returns-then-same_exprs t c =
    test_moved unplaced_expr_form {a = label_expr (exprs_tree c.args.s.now) (exprs_tree c.args.i.now)} refl (ap expr_form c.in-LabelOf.is ∙ label_row c.in-LabelOf.t c.in-LabelOf.j) (search rules)

pub same_label-returns-else-same_exprs : goal.same_label-returns-else-same_exprs
same_label-returns-else-same_exprs t c =
    test_moved unplaced_expr_form {a = label_expr (exprs_tree c.args.s.now) (exprs_tree c.args.i.now)} refl (ap expr_form c.in-LabelOf.is ∙ label_row c.in-LabelOf.t c.in-LabelOf.j) (search rules)

pub same_spawn-returns-then-same_id : goal.same_spawn-returns-then-same_id
same_spawn-returns-then-same_id t c =
    test_moved unplaced_expr_form {a = spawn_expr (expr_tree c.args.caps.now) (id_tree c.args.function.now) (exprs_tree c.args.args.now)} refl (ap expr_form c.in-Spawn.is ∙ spawn_row c.in-Spawn.c c.in-Spawn.x c.in-Spawn.es) (search rules)

pub same_exprs-returns-then-a-b : goal.same_exprs-returns-then-a-b
same_exprs-returns-then-a-b t c = same_lengths unplaced_exprs-list _ _ c.if-a-b.true

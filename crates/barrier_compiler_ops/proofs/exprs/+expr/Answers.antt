use Rattle.std.proofs.Common.{arith, ap, ◌∙◌}
use Rattle.lam_resolve_tree.specs.Tree.{expr_tree}
use Rattle.lam_resolve_tree.proofs.Rows.{call_row, builtin_row, label_row, spawn_row}
use Rattle.barrier_compiler_ops.proofs.Joins.{joins, starts}
use Rattle.barrier_compiler_ops.proofs.Jumps.{either_emits}
use Rattle.barrier_compiler_ops.proofs.ExprArms.{of_form, child, right_child, field_child, index_child, at_item, expr_added, exprs_done}
use Rattle.barrier_compiler_ops.proofs.Labels.{label_emits}
use Rattle.barrier_compiler_ops.proofs.exprs.+expr.Goals as goal

pub emit_then-returns : goal.emit_then-returns
emit_then-returns t c = joins c.emit_expr.ensures c.push.ensures

pub emit_and-returns : goal.emit_and-returns
emit_and-returns t c =
    either_emits c.jump-test.ensures.at c.jump-test.ensures.emits c.emit_expr.ensures c.jump-skip.ensures.at c.jump-skip.ensures.emits c.len-other.ensures c.constant.ensures c.len-end.ensures c.point.ensures c.point-2.ensures

pub emit_or-returns : goal.emit_or-returns
emit_or-returns t c =
    either_emits c.jump-test.ensures.at c.jump-test.ensures.emits c.constant.ensures c.jump-skip.ensures.at c.jump-skip.ensures.emits c.len-other.ensures c.emit_expr.ensures c.len-end.ensures c.point.ensures c.point-2.ensures

pub emit_field-returns : goal.emit_field-returns
emit_field-returns t c = joins c.emit_expr.ensures (joins c.push.ensures c.get_field.ensures)

pub emit_index-returns : goal.emit_index-returns
emit_index-returns t c = joins c.emit_expr.ensures (joins c.push.ensures c.push-2.ensures)

pub emit_call-returns : goal.emit_call-returns
emit_call-returns t c = joins c.emit_exprs.ensures c.call.ensures

pub emit_builtin-returns : goal.emit_builtin-returns
emit_builtin-returns t c = joins c.emit_exprs.ensures c.push.ensures

pub emit_expr-returns-in-Binary : goal.emit_expr-returns-in-Binary
emit_expr-returns-in-Binary t c =
    of_form (ap expr_tree c.in-Binary.is) (joins (child c.deref-in-Binary.ensures c.emit_expr.ensures) (right_child c.in-Binary.op c.deref-in-Binary-2.ensures c.emit_right.ensures))

pub emit_expr-returns-in-Field : goal.emit_expr-returns-in-Field
emit_expr-returns-in-Field t c = of_form (ap expr_tree c.in-Field.is) (field_child c.in-Field.field c.deref-in-Field.ensures c.emit_field.ensures)

pub emit_expr-returns-in-Element : goal.emit_expr-returns-in-Element
emit_expr-returns-in-Element t c =
    of_form (ap expr_tree c.in-Element.is) (joins (child c.deref-in-Element.ensures c.emit_expr-in-Element.ensures) (index_child c.deref-in-Element-2.ensures c.emit_index.ensures))

pub emit_expr-returns-in-Call : goal.emit_expr-returns-in-Call
emit_expr-returns-in-Call t c = of_form (ap expr_tree c.in-Call.is ∙ call_row c.in-Call.function c.in-Call.args) c.emit_call.ensures

pub emit_expr-returns-in-BuiltinCall : goal.emit_expr-returns-in-BuiltinCall
emit_expr-returns-in-BuiltinCall t c = of_form (ap expr_tree c.in-BuiltinCall.is ∙ builtin_row c.in-BuiltinCall.call c.in-BuiltinCall.args c.in-BuiltinCall.ty) c.emit_builtin.ensures

pub emit_expr-returns-in-LabelOf : goal.emit_expr-returns-in-LabelOf
emit_expr-returns-in-LabelOf t c =
    of_form (ap expr_tree c.in-LabelOf.is ∙ label_row c.in-LabelOf.s c.in-LabelOf.i) (label_emits c.in-LabelOf.s.items c.in-LabelOf.i.items c.in-LabelOf.s.ok.0 c.in-LabelOf.i.ok.0 c.emit_exprs.ensures c.emit_exprs-in-LabelOf.ensures c.emit_label.ensures)

pub emit_expr-returns-in-Spawn : goal.emit_expr-returns-in-Spawn
emit_expr-returns-in-Spawn t c =
    of_form (ap expr_tree c.in-Spawn.is ∙ spawn_row c.in-Spawn.caps c.in-Spawn.function c.in-Spawn.args)
    (joins (child c.deref-in-Spawn.ensures c.emit_expr-in-Spawn.ensures) (joins c.emit_exprs-in-Spawn.ensures c.spawn.ensures))

pub emit_exprs-loop-e-init : goal.emit_exprs-loop-e-init
emit_exprs-loop-e-init t c = starts _ _

pub emit_exprs-loop-e-preserved : goal.emit_exprs-loop-e-preserved
emit_exprs-loop-e-preserved t c =
    expr_added _ c.args.es.now.items c.loop-e.e-index c.e-item.result (grind (arith, c.deref-e-items.ensures.value)) (at_item _ _ c.loop-e.e-index c.e-item.result c.deref-e-items.ensures.value c.e-item.is) c.loop-e.invariant c.emit_expr.ensures

pub emit_exprs-returns : goal.emit_exprs-returns
emit_exprs-returns t c = exprs_done _ c.args.es.now.items c.loop-e.e-index (grind (arith, c.deref-e-items.ensures.value)) c.loop-e.invariant

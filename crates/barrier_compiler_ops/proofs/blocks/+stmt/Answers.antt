use Rattle.std.proofs.Common.{arith, ap, ◌∙◌, reverse, Option, Vec, Global}
use Rattle.lam_resolve_tree.specs.declared.Stmt.{Stmt}
use Rattle.lam_resolve_tree.specs.Tree.{expr_tree, stmt_tree, stmts_tree, else_tree, if_block}
use Rattle.lam_resolve_tree.proofs.Rows.{while_row, sync_row, if_row}
use Rattle.lam_meaning.specs.Scheme.{block}
use Rattle.barrier_compiler_ops.proofs.Joins.{joins}
use Rattle.barrier_compiler_ops.proofs.Jumps.{either_emits, loop_emits}
use Rattle.barrier_compiler_ops.proofs.ExprArms.{at_item}
use Rattle.barrier_compiler_ops.proofs.Arms.{of_form, sync_emits, stmt_held, either_held, stmt_added}
use Rattle.barrier_compiler_ops.proofs.blocks.+stmt.Goals as goal

pub emit_block-loop-s-preserved : goal.emit_block-loop-s-preserved
emit_block-loop-s-preserved t c =
    record {
      goes = stmt_added (reverse c.args.held.now.items) _ c.args.body.now.items c.loop-s.s-index c.s-item.result (grind (arith, c.deref-s-items.ensures.value)) (at_item _ _ c.loop-s.s-index c.s-item.result c.deref-s-items.ensures.value c.s-item.is) c.loop-s.invariant.goes (stmt_held c.loop-s.held.items c.args.held.now.items (stmt_tree c.s-item.result) c.loop-s.invariant.stays c.emit_stmt.ensures.emits);
      stays = c.emit_stmt.ensures.held ∙ c.loop-s.invariant.stays;
    }

pub emit_other-returns-clause-emits : goal.emit_other-returns-clause-emits
emit_other-returns-clause-emits t c =
    record { by = λ a b ps at e g. either_emits at e g c.jump-skip.ensures.at c.jump-skip.ensures.emits c.len-second.ensures c.emit_block.ensures.emits c.len-end.ensures c.point.ensures c.point-2.ensures }

pub emit_loop-returns-clause-emits : goal.emit_loop-returns-clause-emits
emit_loop-returns-clause-emits t c =
    loop_emits c.len-start.ensures c.emit_expr.ensures c.jump-leave.ensures.at c.jump-leave.ensures.emits c.emit_block.ensures.emits c.push.ensures c.len-end.ensures c.point.ensures

pub emit_stmt-returns-in-None-clause-emits : goal.emit_stmt-returns-in-None-clause-emits
emit_stmt-returns-in-None-clause-emits t c =
    of_form (reverse c.args.held.now.items)
    (ap stmt_tree c.in-If.is ∙ if_row c.in-If.test c.in-If.yes c.in-If.no ∙ ap (λ (o : Option (Vec Stmt Global)). if_block (expr_tree c.in-If.test) (stmts_tree c.in-If.yes.items) (else_tree o)) c.in-None.is)
    (joins c.emit_expr.ensures (c.end_fork.ensures.by _ _ _ c.jump-fork.ensures.at c.jump-fork.ensures.emits c.emit_block.ensures.emits))

pub emit_stmt-returns-in-Some-clause-emits : goal.emit_stmt-returns-in-Some-clause-emits
emit_stmt-returns-in-Some-clause-emits t c =
    of_form (reverse c.args.held.now.items)
    (ap stmt_tree c.in-If.is ∙ if_row c.in-If.test c.in-If.yes c.in-If.no ∙ ap (λ (o : Option (Vec Stmt Global)). if_block (expr_tree c.in-If.test) (stmts_tree c.in-If.yes.items) (else_tree o)) c.in-Some.is)
    (joins c.emit_expr.ensures (either_held c.emit_block.new.held.items c.args.held.now.items (block (reverse c.args.held.now.items) (stmts_tree c.in-If.yes.items)) (stmts_tree c.in-Some.other.items) c.emit_block.ensures.held (c.emit_other.ensures.emits.by _ _ _ c.jump-fork.ensures.at c.jump-fork.ensures.emits c.emit_block.ensures.emits)))

pub emit_stmt-returns-in-While-clause-emits : goal.emit_stmt-returns-in-While-clause-emits
emit_stmt-returns-in-While-clause-emits t c =
    of_form (reverse c.args.held.now.items) (ap stmt_tree c.in-While.is ∙ while_row c.in-While.test c.in-While.body) c.emit_loop.ensures.emits

pub emit_stmt-returns-in-Sync-clause-emits : goal.emit_stmt-returns-in-Sync-clause-emits
emit_stmt-returns-in-Sync-clause-emits t c =
    of_form (reverse c.args.held.now.items) (ap stmt_tree c.in-Sync.is ∙ sync_row c.in-Sync.slot c.in-Sync.thing c.in-Sync.body) c.emit_sync.ensures.emits

pub emit_sync-returns-clause-emits : goal.emit_sync-returns-clause-emits
emit_sync-returns-clause-emits t c =
    sync_emits (reverse c.args.held.now.items) c.args.slot (expr_tree c.args.thing.now) (stmts_tree c.args.body.now.items) c.emit_enter.ensures c.emit_inside.ensures.emits c.emit_leave.ensures

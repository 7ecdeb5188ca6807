use Rattle.std.proofs.Common.{List, ap, sym, ◌∙◌, arith}
use Rattle.lam_resolve_tree.specs.declared.Expr.{Expr}
use Rattle.lam_resolve_tree.specs.declared.Stmt.{Stmt}
use Rattle.lam_resolve_tree.specs.Tree.{let_slot, if_block, while_block, return_value, throw_value, sync_block, region_block, do_value, set_local, set_field, set_element, type_tree, types_tree, expr_tree, option_expr_tree, stmt_tree, stmts_tree, else_tree}
use Rattle.lam_resolve_tree.proofs.Rows.{while_row, sync_row, if_row, region_row}
use Rattle.source_walk_parts.proofs.Steps.{if_ok}
use Rattle.source_walk_parts.specs.States.{state_of}
use Rattle.source_walk_open.proofs.StmtForms.{of_form, region_parts}
use Rattle.source_walk_state.proofs.Programs.{types_length}
use Rattle.source_walk_open.proofs.stmts.exec.Goals as goal

pub returns-in-Let : goal.returns-in-Let
returns-in-Let c =
    of_form c.declare.result c.args.depth (state_of c.args.w.now) (state_of c.declare.new.w) (stmt_tree c.args.s.now) (let_slot c.in-Let.slot (expr_tree c.in-Let.value)) (ap stmt_tree c.in-Let.is) c.declare.ensures

pub returns-in-If : goal.returns-in-If
returns-in-If c =
    of_form c.branch-w.result c.args.depth (state_of c.args.w.now) (state_of c.branch-w.new.w) (stmt_tree c.args.s.now) (if_block (expr_tree c.in-If.test) (stmts_tree c.deref.result.now) (else_tree c.in-If.no))
    (ap stmt_tree c.in-If.is ∙ if_row c.in-If.test c.in-If.yes c.in-If.no ∙ ap (λ (xs : List Stmt). if_block (expr_tree c.in-If.test) (stmts_tree xs) (else_tree c.in-If.no)) (sym c.deref.ensures.value)) c.branch-w.ensures

pub returns-in-While : goal.returns-in-While
returns-in-While c =
    of_form c.repeat.result c.args.depth (state_of c.args.w.now) (state_of c.repeat.new.w) (stmt_tree c.args.s.now) (while_block (expr_tree c.in-While.test) (stmts_tree c.deref-in-While.result.now))
    (ap stmt_tree c.in-While.is ∙ while_row c.in-While.test c.in-While.body ∙ ap (λ (xs : List Stmt). while_block (expr_tree c.in-While.test) (stmts_tree xs)) (sym c.deref-in-While.ensures.value)) c.repeat.ensures

pub returns-in-Return : goal.returns-in-Return
returns-in-Return c =
    of_form c.give_back.result c.args.depth (state_of c.args.w.now) (state_of c.give_back.new.w) (stmt_tree c.args.s.now) (return_value (option_expr_tree c.in-Return.value)) (ap stmt_tree c.in-Return.is) c.give_back.ensures

pub returns-in-Throw : goal.returns-in-Throw
returns-in-Throw c =
    of_form c.throw.result c.args.depth (state_of c.args.w.now) (state_of c.throw.new.w) (stmt_tree c.args.s.now) (throw_value (expr_tree c.in-Throw.value)) (ap stmt_tree c.in-Throw.is) c.throw.ensures

pub returns-in-Sync : goal.returns-in-Sync
returns-in-Sync c =
    of_form c.sync.result c.args.depth (state_of c.args.w.now) (state_of c.sync.new.w) (stmt_tree c.args.s.now) (sync_block c.in-Sync.slot (expr_tree c.in-Sync.thing) (stmts_tree c.deref-in-Sync.result.now))
    (ap stmt_tree c.in-Sync.is ∙ sync_row c.in-Sync.slot c.in-Sync.thing c.in-Sync.body ∙ ap (λ (xs : List Stmt). sync_block c.in-Sync.slot (expr_tree c.in-Sync.thing) (stmts_tree xs)) (sym c.deref-in-Sync.ensures.value)) c.sync.ensures

pub returns-in-Region : goal.returns-in-Region
returns-in-Region c =
    of_form c.region.result c.args.depth (state_of c.args.w.now) (state_of c.region.new.w) (stmt_tree c.args.s.now)
    (region_block c.in-Region.number (expr_tree c.deref-in-Region-4.result.now) (expr_tree c.deref-in-Region-5.result.now) c.deref-in-Region.result.now (types_tree c.in-Region.slots.items) (stmts_tree c.deref-in-Region-2.result.now) c.in-Region.catch_slot (stmts_tree c.deref-in-Region-3.result.now))
    (ap stmt_tree c.in-Region.is ∙ region_row c.in-Region.number c.in-Region.label c.in-Region.caps c.in-Region.captures c.in-Region.slots c.in-Region.body c.in-Region.catch_slot c.in-Region.catch_body
    ∙ region_parts c.in-Region.number (types_tree c.in-Region.slots.items) c.in-Region.catch_slot _ _ _ _ _ _ _ _ _ _ c.deref-in-Region-4.ensures c.deref-in-Region-5.ensures c.deref-in-Region.ensures.value c.deref-in-Region-2.ensures.value c.deref-in-Region-3.ensures.value)
    (if_ok c.region.result _ _ c.region.ensures (λ d h. h (types_tree c.in-Region.slots.items) (omega (arith, c.len.ensures, c.in-Region.slots.ok.0, types_length c.in-Region.slots.items))))

pub returns-in-Do : goal.returns-in-Do
returns-in-Do c =
    of_form c.discard.result c.args.depth (state_of c.args.w.now) (state_of c.discard.new.w) (stmt_tree c.args.s.now) (do_value (expr_tree c.in-Do.value)) (ap stmt_tree c.in-Do.is) c.discard.ensures

pub returns-in-SetLocal : goal.returns-in-SetLocal
returns-in-SetLocal c =
    of_form c.assign.result c.args.depth (state_of c.args.w.now) (state_of c.assign.new.w) (stmt_tree c.args.s.now) (set_local c.in-SetLocal.slot (expr_tree c.in-SetLocal.value)) (ap stmt_tree c.in-SetLocal.is) c.assign.ensures

pub returns-in-SetField : goal.returns-in-SetField
returns-in-SetField c =
    of_form c.set_field.result c.args.depth (state_of c.args.w.now) (state_of c.set_field.new.w) (stmt_tree c.args.s.now) (set_field (expr_tree c.deref-in-SetField.result.now) c.in-SetField.class c.in-SetField.field (type_tree c.in-SetField.ty) (expr_tree c.in-SetField.value))
    (ap stmt_tree c.in-SetField.is ∙ ap (λ (x : Expr). set_field (expr_tree x) c.in-SetField.class c.in-SetField.field (type_tree c.in-SetField.ty) (expr_tree c.in-SetField.value)) (sym c.deref-in-SetField.ensures))
    (if_ok c.set_field.result _ _ c.set_field.ensures (λ d h. h c.in-SetField.class (type_tree c.in-SetField.ty)))

pub returns-in-SetElement : goal.returns-in-SetElement
returns-in-SetElement c =
    of_form c.set_element.result c.args.depth (state_of c.args.w.now) (state_of c.set_element.new.w) (stmt_tree c.args.s.now) (set_element (expr_tree c.deref-in-SetElement.result.now) (expr_tree c.deref-in-SetElement-2.result.now) (type_tree c.in-SetElement.ty) (expr_tree c.in-SetElement.value))
    (ap stmt_tree c.in-SetElement.is ∙ ap (λ (x : Expr). set_element (expr_tree x) (expr_tree c.in-SetElement.index.value) (type_tree c.in-SetElement.ty) (expr_tree c.in-SetElement.value)) (sym c.deref-in-SetElement.ensures) ∙ ap (λ (x : Expr). set_element (expr_tree c.deref-in-SetElement.result.now) (expr_tree x) (type_tree c.in-SetElement.ty) (expr_tree c.in-SetElement.value)) (sym c.deref-in-SetElement-2.ensures))
    (if_ok c.set_element.result _ _ c.set_element.ensures (λ d h. h (type_tree c.in-SetElement.ty)))

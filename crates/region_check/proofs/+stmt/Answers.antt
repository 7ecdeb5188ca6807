use Rattle.std.proofs.Common.{◌≡◌, List, sym, ap, ◌∙◌, Option, Box, Vec, Global}
use Rattle.std.proofs.lemmas.Result.{err_from_is_err_and}
use Rattle.lam_syntax.specs.declared.Id.{Id}
use Rattle.lam_syntax.specs.declared.Expr.{Expr}
use Rattle.lam_syntax.specs.declared.Stmt.{Stmt}
use Rattle.lam_syntax.specs.declared.StmtKind.{StmtKind}
use Rattle.lam_syntax.specs.declared.StmtKind.TheVariants.{Region}
use Rattle.lam_syntax.proofs.Rows.{while_row, sync_row, if_row, region_row}
use Rattle.lam_syntax.specs.Tree.{stmt_form, if_stmt, region_stmt, expr_tree, stmts_tree, else_tree, ids_tree, id_tree}
use Rattle.lam_operators.specs.Words.{Word}
use Rattle.region_check.specs.Breaks.{closed, stmts_checked, expr_checked, with_name}
use Rattle.region_check.specs.Values.{texts}
use Rattle.region_check.proofs.Arms
use Rattle.region_check.proofs.Steps.{both_first}
use Rattle.region_check.proofs.+stmt.Goals as goal

-- a region, the expressions of whose head were reached as a and b
headed : (k : StmtKind) (l m : Box Expr Global) (xs : Vec Id Global) (body : Vec Stmt Global) (x : Id) (handler : Vec Stmt Global) (a b : Expr) → k ≡ Region l m xs body x handler → a ≡ l.value → b ≡ m.value →
    stmt_form k ≡ region_stmt (expr_tree a) (expr_tree b) (ids_tree xs.items) (stmts_tree body.items) (id_tree x) (stmts_tree handler.items)
headed k l m xs body x handler a b e p q =
    ap stmt_form e ∙ region_row l m xs body x handler ∙
    ap (λ (a : Expr). region_stmt (expr_tree a) (expr_tree m.value) (ids_tree xs.items) (stmts_tree body.items) (id_tree x) (stmts_tree handler.items)) (sym p) ∙
    ap (λ (b : Expr). region_stmt (expr_tree a) (expr_tree b) (ids_tree xs.items) (stmts_tree body.items) (id_tree x) (stmts_tree handler.items)) (sym q)

pub check_block-returns-in_err-check_stmts-clause-meets : goal.check_block-returns-in_err-check_stmts-clause-meets
check_block-returns-in_err-check_stmts-clause-meets t c =
    let p = err_from_is_err_and c.from_residual.result c.from_residual.ensures.1 in
    rw (p.1, p.2) (Arms.block_stop c.in_err-check_stmts.field-0.0 c.args.inside (texts c.args.own.now.keys) c.as_slice.result.now c.args.body.now.items c.as_slice.ensures.value c.in_err-check_stmts.ensures.meets)

pub check_block-returns-clause-meets : goal.check_block-returns-clause-meets
check_block-returns-clause-meets t c =
    Arms.block_done c.args.inside (texts c.args.own.now.keys) (texts c.check_stmts.new.own.keys) c.as_slice.result.now c.args.body.now.items c.as_slice.ensures.value c.in_ok-check_stmts.ensures.meets

pub check_guarded-returns-in_err-check_expr-clause-meets : goal.check_guarded-returns-in_err-check_expr-clause-meets
check_guarded-returns-in_err-check_expr-clause-meets t c =
    let p = err_from_is_err_and c.from_residual.result c.from_residual.ensures.1 in
    rw (p.1, p.2) (both_first c.in_err-check_expr.field-0.0 (expr_checked c.args.inside (texts c.args.own.now.keys) (expr_tree c.args.e.now)) (closed (stmts_checked c.args.inside (texts c.args.own.now.keys) (stmts_tree c.args.body.now.items))) c.in_err-check_expr.ensures)

pub check_guarded-returns-clause-meets : goal.check_guarded-returns-clause-meets
check_guarded-returns-clause-meets t c =
    Arms.both_passes c.check_block.result (expr_checked c.args.inside (texts c.args.own.now.keys) (expr_tree c.args.e.now)) (closed (stmts_checked c.args.inside (texts c.args.own.now.keys) (stmts_tree c.args.body.now.items))) c.in_ok-check_expr.ensures c.check_block.ensures.meets

pub check_stmt-returns-in_err-check_guarded-in-If-clause-meets : goal.check_stmt-returns-in_err-check_guarded-in-If-clause-meets
check_stmt-returns-in_err-check_guarded-in-If-clause-meets t c =
    let p = err_from_is_err_and c.from_residual-in_err-check_guarded-in-If.result c.from_residual-in_err-check_guarded-in-If.ensures.1 in
    rw (p.1, p.2) (Arms.if_stop c.args.inside c.args.s.now.at (stmt_form c.args.s.now.kind) c.args.own.now.keys c.in_err-check_guarded-in-If.field-0.0 (expr_tree c.in-If.test) (stmts_tree c.in-If.yes.items) (else_tree c.in-If.no) (ap stmt_form c.in-If.is ∙ if_row c.in-If.test c.in-If.yes c.in-If.no) c.in_err-check_guarded-in-If.ensures.meets)

pub check_stmt-returns-in-None-clause-meets : goal.check_stmt-returns-in-None-clause-meets
check_stmt-returns-in-None-clause-meets t c =
    Arms.if_none c.args.inside c.args.s.now.at (stmt_form c.args.s.now.kind) c.args.own.now.keys c.check_guarded.new.own.keys (expr_tree c.in-If.test) (stmts_tree c.in-If.yes.items) (ap stmt_form c.in-If.is ∙ if_row c.in-If.test c.in-If.yes c.in-If.no ∙ ap (λ (o : Option (Vec Stmt Global)). if_stmt (expr_tree c.in-If.test) (stmts_tree c.in-If.yes.items) (else_tree o)) c.in-None.is) c.in_ok-check_guarded-in-If.ensures.meets c.in_ok-check_guarded-in-If.ensures.keeps

pub check_stmt-returns-in-Some-clause-meets : goal.check_stmt-returns-in-Some-clause-meets
check_stmt-returns-in-Some-clause-meets t c =
    Arms.if_some c.args.inside c.args.s.now.at (stmt_form c.args.s.now.kind) c.args.own.now.keys c.check_block.result c.check_block.new.own.keys c.check_guarded.new.own.keys (expr_tree c.in-If.test) (stmts_tree c.in-If.yes.items) (stmts_tree c.in-Some.other.items) (ap stmt_form c.in-If.is ∙ if_row c.in-If.test c.in-If.yes c.in-If.no ∙ ap (λ (o : Option (Vec Stmt Global)). if_stmt (expr_tree c.in-If.test) (stmts_tree c.in-If.yes.items) (else_tree o)) c.in-Some.is) c.in_ok-check_guarded-in-If.ensures.meets c.in_ok-check_guarded-in-If.ensures.keeps c.check_block.ensures.keeps c.check_block.ensures.meets

pub check_stmt-returns-in-While-clause-meets : goal.check_stmt-returns-in-While-clause-meets
check_stmt-returns-in-While-clause-meets t c =
    Arms.while_arm c.args.inside c.args.s.now.at (stmt_form c.args.s.now.kind) c.args.own.now.keys c.check_guarded-in-While.result c.check_guarded-in-While.new.own.keys (expr_tree c.in-While.test) (stmts_tree c.in-While.body.items) (ap stmt_form c.in-While.is ∙ while_row c.in-While.test c.in-While.body) c.check_guarded-in-While.ensures.keeps c.check_guarded-in-While.ensures.meets

pub check_stmt-returns-in-Sync-clause-meets : goal.check_stmt-returns-in-Sync-clause-meets
check_stmt-returns-in-Sync-clause-meets t c =
    Arms.sync_arm c.args.inside c.args.s.now.at (stmt_form c.args.s.now.kind) c.args.own.now.keys c.check_guarded-in-Sync.result c.check_guarded-in-Sync.new.own.keys (expr_tree c.in-Sync.thing) (stmts_tree c.in-Sync.body.items) (ap stmt_form c.in-Sync.is ∙ sync_row c.in-Sync.thing c.in-Sync.body) c.check_guarded-in-Sync.ensures.keeps c.check_guarded-in-Sync.ensures.meets

pub check_stmt-returns-in_err-check_block-in-Region-clause-meets : goal.check_stmt-returns-in_err-check_block-in-Region-clause-meets
check_stmt-returns-in_err-check_block-in-Region-clause-meets t c =
    let p = err_from_is_err_and c.from_residual-in_err-check_block-in-Region.result c.from_residual-in_err-check_block-in-Region.ensures.1 in
    rw (p.1, p.2) (Arms.body_stop c.args.inside c.args.s.now.at (stmt_form c.args.s.now.kind) c.args.own.now.keys c.in_err-check_block-in-Region.field-0.0 (texts c.in_ok-inner-in-Region.inner.keys) (expr_tree c.deref.result.now) (expr_tree c.deref-in-Region.result.now) (ids_tree c.in-Region.captures.items) (stmts_tree c.in-Region.body.items) (id_tree c.in-Region.catch_name) (stmts_tree c.in-Region.catch_body.items) (headed c.args.s.now.kind c.in-Region.label c.in-Region.caps c.in-Region.captures c.in-Region.body c.in-Region.catch_name c.in-Region.catch_body c.deref.result.now c.deref-in-Region.result.now c.in-Region.is c.deref.ensures c.deref-in-Region.ensures) c.in_ok-inner-in-Region.ensures c.in_err-check_block-in-Region.ensures.meets)

pub check_stmt-returns-in_err-check_place-in-Assign-clause-meets : goal.check_stmt-returns-in_err-check_place-in-Assign-clause-meets
check_stmt-returns-in_err-check_place-in-Assign-clause-meets t c =
    let p = err_from_is_err_and c.from_residual-in_err-check_place-in-Assign.result c.from_residual-in_err-check_place-in-Assign.ensures.1 in
    rw (p.1, p.2) (Arms.assign_first c.args.inside c.args.s.now.at (stmt_form c.args.s.now.kind) c.args.own.now.keys c.in_err-check_place-in-Assign.field-0.0 (expr_tree c.in-Assign.place) (expr_tree c.in-Assign.value) (ap stmt_form c.in-Assign.is) c.in_err-check_place-in-Assign.ensures)

pub check_stmt-returns-in_ok-check_place-in-Assign-clause-meets : goal.check_stmt-returns-in_ok-check_place-in-Assign-clause-meets
check_stmt-returns-in_ok-check_place-in-Assign-clause-meets t c =
    Arms.assign_rest c.args.inside c.args.s.now.at (stmt_form c.args.s.now.kind) c.args.own.now.keys c.check_expr-in-Assign.result (expr_tree c.in-Assign.place) (expr_tree c.in-Assign.value) (ap stmt_form c.in-Assign.is) c.in_ok-check_place-in-Assign.ensures c.check_expr-in-Assign.ensures

set_after : (new mid old : List Word) (w v : Word) → new ≡ with_name mid w → mid ≡ old → w ≡ v → new ≡ with_name old v
set_after new mid old w v e f g = e ∙ ap (λ (l : List Word). with_name l w) f ∙ ap (with_name old) g

pub check_stmt-returns-in_ok-add_name-in-Region-clause-meets : goal.check_stmt-returns-in_ok-add_name-in-Region-clause-meets
check_stmt-returns-in_ok-add_name-in-Region-clause-meets t c =
    Arms.region_arm c.args.inside c.args.s.now.at (stmt_form c.args.s.now.kind) c.args.own.now.keys c.check_block-in-Region-2.result (texts c.in_ok-inner-in-Region.inner.keys) (texts c.add_name-in-Region.new.own.keys) (expr_tree c.deref.result.now) (expr_tree c.deref-in-Region.result.now) (ids_tree c.in-Region.captures.items) (stmts_tree c.in-Region.body.items) (id_tree c.in-Region.catch_name) (stmts_tree c.in-Region.catch_body.items) (headed c.args.s.now.kind c.in-Region.label c.in-Region.caps c.in-Region.captures c.in-Region.body c.in-Region.catch_name c.in-Region.catch_body c.deref.result.now c.deref-in-Region.result.now c.in-Region.is c.deref.ensures c.deref-in-Region.ensures) c.in_ok-inner-in-Region.ensures c.in_ok-check_block-in-Region.ensures.meets
    (set_after _ _ (texts c.in_ok-inner-in-Region.inner.keys) _ _ c.in_ok-add_name-in-Region.ensures.adds (ap texts c.in_ok-check_block-in-Region.ensures.keeps) c.as_str-in-Region.ensures.value) c.check_block-in-Region-2.ensures.meets

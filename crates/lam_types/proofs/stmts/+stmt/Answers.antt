use Rattle.std.proofs.Common.{◌≡◌, sym, ap, ◌∙◌, Option, Box, Vec, Global}
use Rattle.std.proofs.lemmas.Result.{err_from_is_err_and}
use Rattle.lam_syntax.specs.declared.Id.{Id}
use Rattle.lam_syntax.specs.declared.Expr.{Expr}
use Rattle.lam_syntax.specs.declared.Stmt.{Stmt}
use Rattle.lam_syntax.specs.declared.StmtKind.{StmtKind}
use Rattle.lam_syntax.specs.declared.StmtKind.TheVariants.{Region}
use Rattle.lam_syntax.proofs.Rows.{while_row, sync_row, if_row, region_row}
use Rattle.lam_syntax.specs.Tree.{stmt_form, if_stmt, region_stmt, return_stmt, throw_stmt, do_stmt, assign_stmt, expr_tree, option_expr_tree, stmts_tree, else_tree, ids_tree, id_tree}
use Rattle.lam_types_kinds.specs.Values.{decls, names, option_type}
use Rattle.lam_types.proofs.Arms
use Rattle.lam_types.proofs.Pieces.{block_stop, block_done}
use Rattle.lam_types.proofs.stmts.+stmt.Goals as goal

-- a region, the expressions of whose head were reached as a and b
headed : (k : StmtKind) (l m : Box Expr Global) (xs : Vec Id Global) (body : Vec Stmt Global) (x : Id) (handler : Vec Stmt Global) (a b : Expr) → k ≡ Region l m xs body x handler → a ≡ l.value → b ≡ m.value →
    stmt_form k ≡ region_stmt (expr_tree a) (expr_tree b) (ids_tree xs.items) (stmts_tree body.items) (id_tree x) (stmts_tree handler.items)
headed k l m xs body x handler a b e p q =
    ap stmt_form e ∙ region_row l m xs body x handler ∙
    ap (λ (a : Expr). region_stmt (expr_tree a) (expr_tree m.value) (ids_tree xs.items) (stmts_tree body.items) (id_tree x) (stmts_tree handler.items)) (sym p) ∙
    ap (λ (b : Expr). region_stmt (expr_tree a) (expr_tree b) (ids_tree xs.items) (stmts_tree body.items) (id_tree x) (stmts_tree handler.items)) (sym q)

pub check_block-returns-in_err-c-clause-meets : goal.check_block-returns-in_err-c-clause-meets
check_block-returns-in_err-c-clause-meets t c =
    let p = err_from_is_err_and c.from_residual.result c.from_residual.ensures.1 in
    rw (p.1, p.2) (block_stop c.in_err-c.field-0.0 (decls c.args.known.now) (option_type c.args.want) (names c.args.env.now.entries) c.args.c c.as_slice.result.now c.args.body.now.items c.as_slice.ensures.value c.in_err-c.ensures.meets)

pub check_block-returns-clause-meets : goal.check_block-returns-clause-meets
check_block-returns-clause-meets t c =
    block_done (decls c.args.known.now) (option_type c.args.want) (names c.args.env.now.entries) (names c.check_stmts.new.env.entries) c.args.c c.in_ok-c.c c.as_slice.result.now c.args.body.now.items c.as_slice.ensures.value c.in_ok-c.ensures.meets

pub check_stmt-returns-in_err-c-in-If-clause-meets : goal.check_stmt-returns-in_err-c-in-If-clause-meets
check_stmt-returns-in_err-c-in-If-clause-meets t c =
    let p = err_from_is_err_and c.from_residual.result c.from_residual.ensures.1 in
    rw (p.1, p.2) (Arms.if_stop (decls c.args.known.now) (option_type c.args.want) c.args.c c.args.s.now.at (stmt_form c.args.s.now.kind) c.args.env.now.entries c.in_err-c-in-If.field-0.0 (expr_tree c.in-If.test) (stmts_tree c.in-If.yes.items) (else_tree c.in-If.no) (ap stmt_form c.in-If.is ∙ if_row c.in-If.test c.in-If.yes c.in-If.no) c.in_err-c-in-If.ensures.meets)

pub check_stmt-returns-in_err-inner-in-Region-clause-meets : goal.check_stmt-returns-in_err-inner-in-Region-clause-meets
check_stmt-returns-in_err-inner-in-Region-clause-meets t c =
    let p = err_from_is_err_and c.from_residual-in_err-inner-in-Region.result c.from_residual-in_err-inner-in-Region.ensures.1 in
    rw (p.1, p.2) (Arms.region_stop (decls c.args.known.now) (option_type c.args.want) c.args.c c.args.s.now.at (stmt_form c.args.s.now.kind) c.args.env.now.entries c.in_err-inner-in-Region.field-0.0 (expr_tree c.deref.result.now) (expr_tree c.deref-in-Region.result.now) (ids_tree c.in-Region.captures.items) (stmts_tree c.in-Region.body.items) (id_tree c.in-Region.catch_name) (stmts_tree c.in-Region.catch_body.items) (headed c.args.s.now.kind c.in-Region.label c.in-Region.caps c.in-Region.captures c.in-Region.body c.in-Region.catch_name c.in-Region.catch_body c.deref.result.now c.deref-in-Region.result.now c.in-Region.is c.deref.ensures c.deref-in-Region.ensures) c.in_err-inner-in-Region.ensures.meets)

pub check_stmt-returns-in_err-inner-in-Region-2-clause-meets : goal.check_stmt-returns-in_err-inner-in-Region-2-clause-meets
check_stmt-returns-in_err-inner-in-Region-2-clause-meets t c =
    let p = err_from_is_err_and c.from_residual-in_err-inner-in-Region-2.result c.from_residual-in_err-inner-in-Region-2.ensures.1 in
    rw (p.1, p.2) (Arms.catch_stop (decls c.args.known.now) (option_type c.args.want) c.args.c c.args.s.now.at (stmt_form c.args.s.now.kind) c.args.env.now.entries c.in_err-inner-in-Region-2.field-0.0 c.in_ok-inner-in-Region.inner c.check_opened.new.env.entries (expr_tree c.deref.result.now) (expr_tree c.deref-in-Region.result.now) (ids_tree c.in-Region.captures.items) (stmts_tree c.in-Region.body.items) (id_tree c.in-Region.catch_name) (stmts_tree c.in-Region.catch_body.items) (headed c.args.s.now.kind c.in-Region.label c.in-Region.caps c.in-Region.captures c.in-Region.body c.in-Region.catch_name c.in-Region.catch_body c.deref.result.now c.deref-in-Region.result.now c.in-Region.is c.deref.ensures c.deref-in-Region.ensures) c.in_ok-inner-in-Region.ensures.meets c.in_ok-inner-in-Region.ensures.keeps c.in_err-inner-in-Region-2.ensures.meets)

pub check_stmt-returns-in-None-clause-meets : goal.check_stmt-returns-in-None-clause-meets
check_stmt-returns-in-None-clause-meets t c =
    Arms.if_none (decls c.args.known.now) (option_type c.args.want) c.args.c c.args.s.now.at (stmt_form c.args.s.now.kind) c.args.env.now.entries c.in_ok-c-in-If.c c.check_guarded.new.env.entries (expr_tree c.in-If.test) (stmts_tree c.in-If.yes.items) (ap stmt_form c.in-If.is ∙ if_row c.in-If.test c.in-If.yes c.in-If.no ∙ ap (λ (o : Option (Vec Stmt Global)). if_stmt (expr_tree c.in-If.test) (stmts_tree c.in-If.yes.items) (else_tree o)) c.in-None.is) c.in_ok-c-in-If.ensures.meets c.in_ok-c-in-If.ensures.keeps

pub check_stmt-returns-in-Some-clause-meets : goal.check_stmt-returns-in-Some-clause-meets
check_stmt-returns-in-Some-clause-meets t c =
    Arms.if_some (decls c.args.known.now) (option_type c.args.want) c.args.c c.args.s.now.at (stmt_form c.args.s.now.kind) c.args.env.now.entries c.in_ok-c-in-If.c c.check_block.result c.check_block.new.env.entries c.check_guarded.new.env.entries (expr_tree c.in-If.test) (stmts_tree c.in-If.yes.items) (stmts_tree c.in-Some.other.items) (ap stmt_form c.in-If.is ∙ if_row c.in-If.test c.in-If.yes c.in-If.no ∙ ap (λ (o : Option (Vec Stmt Global)). if_stmt (expr_tree c.in-If.test) (stmts_tree c.in-If.yes.items) (else_tree o)) c.in-Some.is) c.in_ok-c-in-If.ensures.meets c.in_ok-c-in-If.ensures.keeps c.check_block.ensures.keeps c.check_block.ensures.meets

pub check_stmt-returns-in-While-clause-meets : goal.check_stmt-returns-in-While-clause-meets
check_stmt-returns-in-While-clause-meets t c =
    Arms.while_arm (decls c.args.known.now) (option_type c.args.want) c.args.c c.args.s.now.at (stmt_form c.args.s.now.kind) c.args.env.now.entries c.check_guarded-in-While.result c.check_guarded-in-While.new.env.entries (expr_tree c.in-While.test) (stmts_tree c.in-While.body.items) (ap stmt_form c.in-While.is ∙ while_row c.in-While.test c.in-While.body) c.check_guarded-in-While.ensures.keeps c.check_guarded-in-While.ensures.meets

pub check_stmt-returns-in-Sync-clause-meets : goal.check_stmt-returns-in-Sync-clause-meets
check_stmt-returns-in-Sync-clause-meets t c =
    Arms.sync_arm (decls c.args.known.now) (option_type c.args.want) c.args.c c.args.s.now.at (stmt_form c.args.s.now.kind) c.args.env.now.entries c.check_sync.result c.check_sync.new.env.entries (expr_tree c.in-Sync.thing) (stmts_tree c.in-Sync.body.items) (ap stmt_form c.in-Sync.is ∙ sync_row c.in-Sync.thing c.in-Sync.body) c.check_sync.ensures.keeps c.check_sync.ensures.meets

pub check_stmt-returns-in_ok-inner-in-Region-2-clause-meets : goal.check_stmt-returns-in_ok-inner-in-Region-2-clause-meets
check_stmt-returns-in_ok-inner-in-Region-2-clause-meets t c =
    Arms.region_fine (decls c.args.known.now) (option_type c.args.want) c.args.c c.args.s.now.at (stmt_form c.args.s.now.kind) c.args.env.now.entries c.in_ok-inner-in-Region.inner c.in_ok-inner-in-Region-2.inner c.check_opened.new.env.entries c.check_catch.new.env.entries (expr_tree c.deref.result.now) (expr_tree c.deref-in-Region.result.now) (ids_tree c.in-Region.captures.items) (stmts_tree c.in-Region.body.items) (id_tree c.in-Region.catch_name) (stmts_tree c.in-Region.catch_body.items) (headed c.args.s.now.kind c.in-Region.label c.in-Region.caps c.in-Region.captures c.in-Region.body c.in-Region.catch_name c.in-Region.catch_body c.deref.result.now c.deref-in-Region.result.now c.in-Region.is c.deref.ensures c.deref-in-Region.ensures) c.in_ok-inner-in-Region.ensures.meets c.in_ok-inner-in-Region.ensures.keeps c.in_ok-inner-in-Region-2.ensures.meets c.in_ok-inner-in-Region-2.ensures.keeps

pub check_stmt-returns-in-Return-clause-meets : goal.check_stmt-returns-in-Return-clause-meets
check_stmt-returns-in-Return-clause-meets t c = Arms.steps_form (decls c.args.known.now) (option_type c.args.want) c.args.c c.args.s.now.at (stmt_form c.args.s.now.kind) c.args.env.now.entries c.check_return.result c.args.env.now.entries (return_stmt (option_expr_tree c.in-Return.e)) (ap stmt_form c.in-Return.is) c.check_return.ensures

pub check_stmt-returns-in-Throw-clause-meets : goal.check_stmt-returns-in-Throw-clause-meets
check_stmt-returns-in-Throw-clause-meets t c = Arms.steps_form (decls c.args.known.now) (option_type c.args.want) c.args.c c.args.s.now.at (stmt_form c.args.s.now.kind) c.args.env.now.entries c.check_throw.result c.args.env.now.entries (throw_stmt (expr_tree c.in-Throw.e)) (ap stmt_form c.in-Throw.is) c.check_throw.ensures

pub check_stmt-returns-in-Do-clause-meets : goal.check_stmt-returns-in-Do-clause-meets
check_stmt-returns-in-Do-clause-meets t c = Arms.steps_form (decls c.args.known.now) (option_type c.args.want) c.args.c c.args.s.now.at (stmt_form c.args.s.now.kind) c.args.env.now.entries c.check_do.result c.args.env.now.entries (do_stmt (expr_tree c.in-Do.e)) (ap stmt_form c.in-Do.is) c.check_do.ensures

pub check_stmt-returns-in-Assign-clause-meets : goal.check_stmt-returns-in-Assign-clause-meets
check_stmt-returns-in-Assign-clause-meets t c = Arms.steps_form (decls c.args.known.now) (option_type c.args.want) c.args.c c.args.s.now.at (stmt_form c.args.s.now.kind) c.args.env.now.entries c.check_assign.result c.args.env.now.entries (assign_stmt (expr_tree c.in-Assign.place) (expr_tree c.in-Assign.value)) (ap stmt_form c.in-Assign.is) c.check_assign.ensures

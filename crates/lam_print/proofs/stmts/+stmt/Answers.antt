use Rattle.std.proofs.Common.{◌≡◌, ℕ, ◌∙◌, ◌∷◌, List, false, sym, ap, refl, rules, arith, Option, Vec, Global}
use Rattle.lam_lexer.specs.declared.token.TokenKind.TheVariants as Kind
use Rattle.lam_syntax.specs.declared.Stmt.{Stmt}
use Rattle.lam_syntax.specs.declared.Id.{Id}
use Rattle.lam_syntax.specs.declared.Expr.{Expr}
use Rattle.lam_syntax.specs.Tree.{StmtForm, if_stmt, while_stmt, sync_stmt, id_tree, ids_tree, expr_tree, stmt_form, stmts_tree, else_tree}
use Rattle.lam_syntax.proofs.Rows.{if_row, while_row, sync_row, region_row}
use Rattle.lam_print.specs.Pieces.{Piece, token, blank}
use Rattle.lam_print.specs.Printing.{Puts}
use Rattle.lam_print.specs.Canon as canon
use Rattle.lam_print.proofs.Steps.{said, arm_of, arm_text, arm_puts, last_puts, puts_of, on_ok, each_last}
use Rattle.lam_print.proofs.Views.{stmts-each}
use Rattle.lam_print.proofs.Blocks.{empty_block, full_block, stmt_more}
use Rattle.lam_print.proofs.stmts.+stmt.Goals as goal

pub put_block-returns-then-is_empty : goal.put_block-returns-then-is_empty
put_block-returns-then-is_empty t c = empty_block c.args.body.now c.args.depth _ _ _ c.put.result (sym c.is_empty.ensures ∙ c.if-is_empty.true) refl c.put.ensures

pub put_block-loop-x-preserved : goal.put_block-loop-x-preserved
put_block-loop-x-preserved t c = stmt_more c.args.body.now _ c.loop-x.x-index c.x-item.result c.loop-x-test.true c.x-item.is c.in_ok-put_line.ensures c.in_ok-put_stmt.ensures c.loop-x.invariant

pub put_block-returns : goal.put_block-returns
put_block-returns t c = full_block c.args.body.now c.args.depth c.in-Some.inner _ _ _ _ _ _ c.put-3.result (sym c.is_empty.ensures ∙ c.if-is_empty.false) (search rules) refl c.in_ok-put.ensures (each_last (stmts-each c.in-Some.inner) c.args.body.now c.loop-x.x-index (omega (arith, c.loop-x-test.false)) c.loop-x.invariant) c.in_ok-put_line-2.ensures c.put-3.ensures

pub put_kind-returns-in-Let : goal.put_kind-returns-in-Let
put_kind-returns-in-Let t c =
    arm_of (λ (k : StmtForm) (ps : List Piece). canon.lay_stmt_form k c.args.depth ps) _ _ c.put_let.result (ap stmt_form c.in-Let.is) c.put_let.ensures

pub put_kind-returns-in-If : goal.put_kind-returns-in-If
put_kind-returns-in-If t c =
    arm_of (λ (k : StmtForm) (ps : List Piece). canon.lay_stmt_form k c.args.depth ps) _ _ c.put_if.result (ap stmt_form c.in-If.is ∙ if_row c.in-If.test c.in-If.yes c.in-If.no ∙ ap (λ (b : List Stmt). if_stmt (expr_tree c.in-If.test) (stmts_tree b) (else_tree c.in-If.no)) (sym c.deref.ensures.value)) c.put_if.ensures

pub put_kind-returns-in-While : goal.put_kind-returns-in-While
put_kind-returns-in-While t c =
    arm_of (λ (k : StmtForm) (ps : List Piece). canon.lay_stmt_form k c.args.depth ps) _ _ c.put_while.result (ap stmt_form c.in-While.is ∙ while_row c.in-While.test c.in-While.body ∙ ap (λ (b : List Stmt). while_stmt (expr_tree c.in-While.test) (stmts_tree b)) (sym c.deref-in-While.ensures.value)) c.put_while.ensures

pub put_kind-returns-in_ok-put_value-in-Return : goal.put_kind-returns-in_ok-put_value-in-Return
put_kind-returns-in_ok-put_value-in-Return t c =
    arm_text (λ (k : StmtForm) (ps : List Piece). canon.lay_stmt_form k c.args.depth ps) _ _ _ _ c.put-in-Return.result (ap stmt_form c.in-Return.is) (λ ps. said _ _ c.in_ok-put-in-Return.ensures _ ∙ c.in_ok-put_value-in-Return.ensures.gives (token Kind.Semicolon ∷ ps)) (c.put-in-Return.ensures)

pub put_kind-returns-in_ok-put_expr-in-Throw : goal.put_kind-returns-in_ok-put_expr-in-Throw
put_kind-returns-in_ok-put_expr-in-Throw t c =
    arm_text (λ (k : StmtForm) (ps : List Piece). canon.lay_stmt_form k c.args.depth ps) _ _ _ _ c.put-in-Throw-2.result (ap stmt_form c.in-Throw.is) (λ ps. said _ _ c.in_ok-put-in-Throw.ensures _ ∙ c.in_ok-put_expr-in-Throw.ensures.gives (token Kind.Semicolon ∷ ps)) (c.put-in-Throw-2.ensures)

pub put_kind-returns-in-Sync : goal.put_kind-returns-in-Sync
put_kind-returns-in-Sync t c =
    arm_of (λ (k : StmtForm) (ps : List Piece). canon.lay_stmt_form k c.args.depth ps) _ _ c.put_sync.result (ap stmt_form c.in-Sync.is ∙ sync_row c.in-Sync.thing c.in-Sync.body ∙ ap (λ (b : List Stmt). sync_stmt (expr_tree c.in-Sync.thing) (stmts_tree b)) (sym c.deref-in-Sync.ensures.value)) c.put_sync.ensures

-- The head of a region, whose expressions are read through their boxes and whose names through their list.
abbrev region_head : Expr → Expr → List Id → List Piece → List Piece
region_head label caps xs ps =
    token Kind.Region ∷ blank ∷ token Kind.ParenOpen ∷ canon.lay (expr_tree label) canon.whole (token Kind.Comma ∷ blank ∷ canon.lay (expr_tree caps) canon.whole (token Kind.ParenClose ∷ blank ∷ token Kind.BracketOpen ∷ canon.lay_names false (ids_tree xs) (token Kind.BracketClose ∷ blank ∷ ps)))

head_puts : {old new : List ℕ} {l m k n : Expr} {xs ys : List Id} → l ≡ m → k ≡ n → xs ≡ ys → Puts old new (region_head m n ys) → Puts old new (region_head l k xs)
head_puts {old} {new} {l} {m} {k} {n} {xs} {ys} e f g p =
    puts_of (λ (x : Expr). region_head x k xs) e (puts_of (λ (x : Expr). region_head m x xs) f (puts_of (region_head m n) g p))

pub put_kind-returns-in_ok-put_block-in-Region : goal.put_kind-returns-in_ok-put_block-in-Region
put_kind-returns-in_ok-put_block-in-Region t c =
    arm_puts (λ (k : StmtForm) (ps : List Piece). canon.lay_stmt_form k c.args.depth ps) _ _ _ (λ (ps : List Piece). blank ∷ token Kind.Catch ∷ blank ∷ token Kind.ParenOpen ∷ canon.name (id_tree c.in-Region.catch_name) (token Kind.ParenClose ∷ blank ∷ canon.lay_block (stmts_tree c.in-Region.catch_body.items) c.args.depth ps)) c.put_catch.result (ap stmt_form c.in-Region.is ∙ region_row c.in-Region.label c.in-Region.caps c.in-Region.captures c.in-Region.body c.in-Region.catch_name c.in-Region.catch_body) (λ ps. (head_puts (sym c.deref-in-Region.ensures) (sym c.deref-in-Region-2.ensures) (sym c.deref-in-Region-3.ensures.value) c.in_ok-put_region_head-in-Region.ensures).gives (canon.lay_block (stmts_tree c.in-Region.body.items) c.args.depth (blank ∷ token Kind.Catch ∷ blank ∷ token Kind.ParenOpen ∷ canon.name (id_tree c.in-Region.catch_name) (token Kind.ParenClose ∷ blank ∷ canon.lay_block (stmts_tree c.in-Region.catch_body.items) c.args.depth ps))) ∙ (puts_of (λ (b : List Stmt) (ps : List Piece). canon.lay_block (stmts_tree b) c.args.depth ps) (sym c.deref-in-Region-4.ensures.value) c.in_ok-put_block-in-Region.ensures).gives (blank ∷ token Kind.Catch ∷ blank ∷ token Kind.ParenOpen ∷ canon.name (id_tree c.in-Region.catch_name) (token Kind.ParenClose ∷ blank ∷ canon.lay_block (stmts_tree c.in-Region.catch_body.items) c.args.depth ps))) (on_ok c.put_catch.result (puts_of (λ (b : List Stmt) (ps : List Piece). blank ∷ token Kind.Catch ∷ blank ∷ token Kind.ParenOpen ∷ canon.name (id_tree c.in-Region.catch_name) (token Kind.ParenClose ∷ blank ∷ canon.lay_block (stmts_tree b) c.args.depth ps)) (sym c.deref-in-Region-5.ensures.value)) c.put_catch.ensures)

pub put_kind-returns-in_ok-put_expr-in-Do : goal.put_kind-returns-in_ok-put_expr-in-Do
put_kind-returns-in_ok-put_expr-in-Do t c =
    arm_text (λ (k : StmtForm) (ps : List Piece). canon.lay_stmt_form k c.args.depth ps) _ _ _ _ c.put-in-Do.result (ap stmt_form c.in-Do.is) (λ ps. c.in_ok-put_expr-in-Do.ensures.gives (token Kind.Semicolon ∷ ps)) (c.put-in-Do.ensures)

pub put_kind-returns-in-Assign : goal.put_kind-returns-in-Assign
put_kind-returns-in-Assign t c =
    arm_of (λ (k : StmtForm) (ps : List Piece). canon.lay_stmt_form k c.args.depth ps) _ _ c.put_assign.result (ap stmt_form c.in-Assign.is) c.put_assign.ensures

pub put_if-returns : goal.put_if-returns
put_if-returns t c =
    last_puts _ _ _ _ (canon.lay_else (else_tree c.args.no.now) c.args.depth) c.put_else.result (λ ps. said _ _ c.in_ok-put.ensures _ ∙ c.in_ok-put_expr.ensures.gives (token Kind.ParenClose ∷ blank ∷ canon.lay_block (stmts_tree c.args.yes.now) c.args.depth (canon.lay_else (else_tree c.args.no.now) c.args.depth ps)) ∙ said _ _ c.in_ok-put-2.ensures _ ∙ c.in_ok-put_block.ensures.gives (canon.lay_else (else_tree c.args.no.now) c.args.depth ps)) c.put_else.ensures

pub put_else-returns-in-None : goal.put_else-returns-in-None
put_else-returns-in-None t c =
    puts_of (λ (o : Option (Vec Stmt Global)) (ps : List Piece). canon.lay_else (else_tree o) c.args.depth ps) c.in-None.is (record { gives = λ ps. refl })

pub put_else-returns-in_ok-put-in-Some : goal.put_else-returns-in_ok-put-in-Some
put_else-returns-in_ok-put-in-Some t c =
    arm_puts (λ (o : Option (Vec Stmt Global)) (ps : List Piece). canon.lay_else (else_tree o) c.args.depth ps) _ _ _ (canon.lay_block (stmts_tree c.in-Some.other.items) c.args.depth) c.put_block.result c.in-Some.is (λ ps. said _ _ c.in_ok-put-in-Some.ensures _) (on_ok c.put_block.result (puts_of (λ (b : List Stmt) (ps : List Piece). canon.lay_block (stmts_tree b) c.args.depth ps) (sym c.deref.ensures.value)) c.put_block.ensures)

pub put_while-returns : goal.put_while-returns
put_while-returns t c =
    last_puts _ _ _ _ (canon.lay_block (stmts_tree c.args.body.now) c.args.depth) c.put_block.result (λ ps. said _ _ c.in_ok-put.ensures _ ∙ c.in_ok-put_expr.ensures.gives (token Kind.ParenClose ∷ blank ∷ canon.lay_block (stmts_tree c.args.body.now) c.args.depth ps) ∙ said _ _ c.in_ok-put-2.ensures _) c.put_block.ensures

pub put_sync-returns : goal.put_sync-returns
put_sync-returns t c =
    last_puts _ _ _ _ (canon.lay_block (stmts_tree c.args.body.now) c.args.depth) c.put_block.result (λ ps. said _ _ c.in_ok-put.ensures _ ∙ c.in_ok-put_expr.ensures.gives (token Kind.ParenClose ∷ blank ∷ canon.lay_block (stmts_tree c.args.body.now) c.args.depth ps) ∙ said _ _ c.in_ok-put-2.ensures _) c.put_block.ensures

pub put_catch-returns : goal.put_catch-returns
put_catch-returns t c =
    last_puts _ _ _ _ (canon.lay_block (stmts_tree c.args.body.now) c.args.depth) c.put_block.result (λ ps. said _ _ c.in_ok-put.ensures _ ∙ c.in_ok-put_name.ensures.gives (token Kind.ParenClose ∷ blank ∷ canon.lay_block (stmts_tree c.args.body.now) c.args.depth ps) ∙ said _ _ c.in_ok-put-2.ensures _) c.put_block.ensures

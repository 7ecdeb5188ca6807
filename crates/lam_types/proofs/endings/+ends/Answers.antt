use Rattle.std.proofs.Common.{sym, ap, ◌∙◌, Option, Vec, Global}
use Rattle.lam_syntax.specs.declared.Stmt.{Stmt}
use Rattle.lam_syntax.proofs.Rows.{if_row}
use Rattle.lam_syntax.specs.Tree.{stmt_form, if_stmt, expr_tree, stmts_tree, else_tree}
use Rattle.lam_types.proofs.EndLemmas.{ends_last, if_ends, if_both, if_not}
use Rattle.lam_types.proofs.endings.+ends.Goals as goal

pub block_ends-returns-in-Some : goal.block_ends-returns-in-Some
block_ends-returns-in-Some t c = c.stmt_ends.ensures ∙ sym (ends_last c.args.body.now c.in-Some.s.now c.in-Some.ensures.value)

pub stmt_ends-returns-then-block_ends : goal.stmt_ends-returns-then-block_ends
stmt_ends-returns-then-block_ends t c =
    let e = if_ends _ _ _ _ (ap stmt_form c.in-If.is ∙ if_row c.in-If.test c.in-If.yes c.in-If.no ∙ ap (λ (o : Option (Vec Stmt Global)). if_stmt (expr_tree c.in-If.test) (stmts_tree c.in-If.yes.items) (else_tree o)) c.in-Some.is) in
    if_both _ c.in-If.yes.items _ c.in-Some.other.items _ _ _ e c.as_slice.ensures.value c.as_slice-then-block_ends.ensures.value c.block_ends.ensures c.if-block_ends.true c.block_ends-then-block_ends.ensures

pub stmt_ends-returns-else-block_ends : goal.stmt_ends-returns-else-block_ends
stmt_ends-returns-else-block_ends t c =
    let e = if_ends _ _ _ _ (ap stmt_form c.in-If.is ∙ if_row c.in-If.test c.in-If.yes c.in-If.no ∙ ap (λ (o : Option (Vec Stmt Global)). if_stmt (expr_tree c.in-If.test) (stmts_tree c.in-If.yes.items) (else_tree o)) c.in-Some.is) in
    if_not _ c.in-If.yes.items _ c.in-Some.other.items _ e c.as_slice.ensures.value c.block_ends.ensures c.if-block_ends.false

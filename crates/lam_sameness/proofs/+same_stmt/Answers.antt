use Rattle.std.proofs.Common.{rules, ap, refl, ◌∙◌}
use Rattle.lam_syntax.specs.Tree.{if_stmt, while_stmt, sync_stmt, region_stmt, id_tree, ids_tree, expr_tree, stmts_tree, else_tree, stmt_form}
use Rattle.lam_syntax.specs.Unplaced.{unplaced_stmt_form}
use Rattle.lam_syntax.proofs.Lists.{same_lengths, test_moved}
use Rattle.lam_syntax.proofs.Rows.{if_row, while_row, sync_row, region_row}
use Rattle.lam_syntax.proofs.Views.{unplaced_stmts-list}
use Rattle.lam_sameness.proofs.+same_stmt.Goals as goal

pub same_stmt_kind-returns-in-If : goal.same_stmt_kind-returns-in-If
same_stmt_kind-returns-in-If t c =
    test_moved unplaced_stmt_form {b = stmt_form c.args.b.now} (ap stmt_form c.in-If.is ∙ if_row c.in-If.test c.in-If.yes c.in-If.no) refl (search rules)

pub same_stmt_kind-returns-in-While : goal.same_stmt_kind-returns-in-While
same_stmt_kind-returns-in-While t c =
    test_moved unplaced_stmt_form {b = stmt_form c.args.b.now} (ap stmt_form c.in-While.is ∙ while_row c.in-While.test c.in-While.body) refl (search rules)

pub same_stmt_kind-returns-in-Sync : goal.same_stmt_kind-returns-in-Sync
same_stmt_kind-returns-in-Sync t c =
    test_moved unplaced_stmt_form {b = stmt_form c.args.b.now} (ap stmt_form c.in-Sync.is ∙ sync_row c.in-Sync.thing c.in-Sync.body) refl (search rules)

pub same_stmt_kind-returns-in-Region : goal.same_stmt_kind-returns-in-Region
same_stmt_kind-returns-in-Region t c =
    test_moved unplaced_stmt_form {b = stmt_form c.args.b.now} (ap stmt_form c.in-Region.is ∙ region_row c.in-Region.label c.in-Region.caps c.in-Region.captures c.in-Region.body c.in-Region.catch_name c.in-Region.catch_body) refl (search rules)

pub same_if-returns-then-same_stmts : goal.same_if-returns-then-same_stmts
same_if-returns-then-same_stmts t c =
    test_moved unplaced_stmt_form {a = if_stmt (expr_tree c.args.test.now) (stmts_tree c.args.yes.now) (else_tree c.args.no.now)} refl (ap stmt_form c.in-If.is ∙ if_row c.in-If.e c.in-If.x c.in-If.y) (search rules)

pub same_if-returns-else-same_stmts : goal.same_if-returns-else-same_stmts
same_if-returns-else-same_stmts t c =
    test_moved unplaced_stmt_form {a = if_stmt (expr_tree c.args.test.now) (stmts_tree c.args.yes.now) (else_tree c.args.no.now)} refl (ap stmt_form c.in-If.is ∙ if_row c.in-If.e c.in-If.x c.in-If.y) (search rules)

pub same_while-returns-then-same_expr : goal.same_while-returns-then-same_expr
same_while-returns-then-same_expr t c =
    test_moved unplaced_stmt_form {a = while_stmt (expr_tree c.args.test.now) (stmts_tree c.args.body.now)} refl (ap stmt_form c.in-While.is ∙ while_row c.in-While.e c.in-While.x) (search rules)

pub same_sync-returns-then-same_expr : goal.same_sync-returns-then-same_expr
same_sync-returns-then-same_expr t c =
    test_moved unplaced_stmt_form {a = sync_stmt (expr_tree c.args.thing.now) (stmts_tree c.args.body.now)} refl (ap stmt_form c.in-Sync.is ∙ sync_row c.in-Sync.e c.in-Sync.x) (search rules)

pub same_region-returns-then-same_id : goal.same_region-returns-then-same_id
same_region-returns-then-same_id t c =
    test_moved unplaced_stmt_form {a = region_stmt (expr_tree c.args.label.now) (expr_tree c.args.caps.now) (ids_tree c.args.captures.now) (stmts_tree c.args.body.now) (id_tree c.args.catch_name.now) (stmts_tree c.args.catch_body.now)} refl (ap stmt_form c.in-Region.is ∙ region_row c.in-Region.l c.in-Region.c c.in-Region.xs c.in-Region.x c.in-Region.y c.in-Region.z) (search rules)

pub same_region-returns-else-same_id : goal.same_region-returns-else-same_id
same_region-returns-else-same_id t c =
    test_moved unplaced_stmt_form {a = region_stmt (expr_tree c.args.label.now) (expr_tree c.args.caps.now) (ids_tree c.args.captures.now) (stmts_tree c.args.body.now) (id_tree c.args.catch_name.now) (stmts_tree c.args.catch_body.now)} refl (ap stmt_form c.in-Region.is ∙ region_row c.in-Region.l c.in-Region.c c.in-Region.xs c.in-Region.x c.in-Region.y c.in-Region.z) (search rules)

pub same_stmts-returns-then-a-b : goal.same_stmts-returns-then-a-b
same_stmts-returns-then-a-b t c = same_lengths unplaced_stmts-list _ _ c.if-a-b.true

use Rattle.std.proofs.Common.{arith, ap, ◌∙◌, append-nil, sym, Option, Vec, Global}
use Rattle.lam_resolve_tree.specs.declared.Stmt.{Stmt}
use Rattle.lam_resolve_tree.specs.Tree.{expr_tree, stmt_tree, stmts_tree, else_tree, if_block}
use Rattle.lam_resolve_tree.proofs.Rows.{while_row, sync_row, if_row, region_row}
use Rattle.barrier_compiler_units.proofs.Joins.{joins}
use Rattle.barrier_compiler_ops.proofs.ExprArms.{at_item}
use Rattle.barrier_compiler_units.proofs.Trees.{of_form, as_drafts, stmt_added}
use Rattle.barrier_compiler_units.proofs.drafts.+region.Goals as goal

pub add_regions_in-loop-s-preserved : goal.add_regions_in-loop-s-preserved
add_regions_in-loop-s-preserved t c =
    stmt_added _ c.args.body.now.items c.loop-s.s-index c.s-item.result (grind (arith, c.deref-s-items.ensures.value)) (at_item _ _ c.loop-s.s-index c.s-item.result c.deref-s-items.ensures.value c.s-item.is) c.loop-s.invariant c.add_regions_of.ensures

pub add_regions_of-returns-in-None : goal.add_regions_of-returns-in-None
add_regions_of-returns-in-None t c =
    of_form (ap stmt_tree c.in-If.is ∙ if_row c.in-If.test c.in-If.yes c.in-If.no ∙ ap (λ (o : Option (Vec Stmt Global)). if_block (expr_tree c.in-If.test) (stmts_tree c.in-If.yes.items) (else_tree o)) c.in-None.is)
    (as_drafts (sym (append-nil _)) c.add_regions_in.ensures)

pub add_regions_of-returns-in-Some : goal.add_regions_of-returns-in-Some
add_regions_of-returns-in-Some t c =
    of_form (ap stmt_tree c.in-If.is ∙ if_row c.in-If.test c.in-If.yes c.in-If.no ∙ ap (λ (o : Option (Vec Stmt Global)). if_block (expr_tree c.in-If.test) (stmts_tree c.in-If.yes.items) (else_tree o)) c.in-Some.is)
    (joins c.add_regions_in.ensures c.add_regions_in-in-Some.ensures)

pub add_regions_of-returns-in-While : goal.add_regions_of-returns-in-While
add_regions_of-returns-in-While t c = of_form (ap stmt_tree c.in-While.is ∙ while_row c.in-While.test c.in-While.body) c.add_regions_in-in-While.ensures

pub add_regions_of-returns-in-Sync : goal.add_regions_of-returns-in-Sync
add_regions_of-returns-in-Sync t c = of_form (ap stmt_tree c.in-Sync.is ∙ sync_row c.in-Sync.slot c.in-Sync.thing c.in-Sync.body) c.add_regions_in-in-Sync.ensures

pub add_regions_of-returns-in-Region : goal.add_regions_of-returns-in-Region
add_regions_of-returns-in-Region t c =
    of_form (ap stmt_tree c.in-Region.is ∙ region_row c.in-Region.number c.in-Region.label c.in-Region.caps c.in-Region.captures c.in-Region.slots c.in-Region.body c.in-Region.catch_slot c.in-Region.catch_body)
    (joins c.add_region.ensures (joins c.add_regions_in-in-Region.ensures c.add_regions_in-in-Region-2.ensures))

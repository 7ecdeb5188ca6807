use Rattle.std.proofs.Common.{◌∙◌, sym}
use Rattle.lam_resolve_tree.specs.Tree.{types_tree, stmts_tree}
use Rattle.lam_meaning.specs.Scheme.{region_draft}
use Rattle.barrier_compiler_units.proofs.UnitSteps.{region_unit, length-types, at_start}
use Rattle.barrier_compiler_units.proofs.drafts.add_region.Goals as goal

pub returns : goal.returns
returns c =
    c.add.ensures (region_draft c.args.number c.args.captures.now.items (types_tree c.args.slots.now.items) (stmts_tree c.args.body.now.items) c.args.catch_slot (stmts_tree c.args.catch_body.now.items))
    (region_unit c.args.number c.args.captures.now.items (types_tree c.args.slots.now.items) (stmts_tree c.args.body.now.items) c.args.catch_slot (stmts_tree c.args.catch_body.now.items) c.new-out.ensures
    c.operand-locals.ensures (c.len.ensures ∙ c.args.slots.now.ok.0 ∙ sym (length-types c.args.slots.now.items)) c.operand-region.ensures c.operand-captured.ensures (c.len-2.ensures ∙ c.args.captures.now.ok.0)
    (at_start _ (stmts_tree c.args.body.now.items) c.new-open.ensures.items c.emit_block.ensures.emits) c.push.ensures c.len-catch_at.ensures c.store.ensures (at_start _ (stmts_tree c.args.catch_body.now.items) (c.emit_block.ensures.held ∙ c.new-open.ensures.items) c.emit_block-2.ensures.emits) c.push-2.ensures)

use Rattle.std.proofs.Common.{◌∙◌, sym}
use Rattle.lam_resolve_tree.specs.Tree.{function_tree, stmts_tree}
use Rattle.lam_meaning.specs.Scheme.{function_draft}
use Rattle.barrier_compiler_units.proofs.UnitSteps.{function_unit, length-types, at_start}
use Rattle.barrier_compiler_units.proofs.drafts.add_function.Goals as goal

pub returns-in-Ok : goal.returns-in-Ok
returns-in-Ok c =
    c.add.ensures (function_draft (function_tree c.args.f.now))
    (function_unit (function_tree c.args.f.now) c.in-Ok.kind c.new-out.ensures c.operand-locals.ensures (c.len.ensures ∙ c.args.f.now.slots.ok.0 ∙ sym (length-types c.args.f.now.slots.items)) (at_start _ (stmts_tree c.args.f.now.body.items) c.new-open.ensures.items c.emit_block.ensures.emits) c.constant.ensures c.push.ensures c.in-Ok.ensures)

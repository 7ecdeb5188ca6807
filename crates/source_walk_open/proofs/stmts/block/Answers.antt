use Rattle.std.proofs.Common.{Ok, ap}
use Rattle.lam_value.specs.declared.values.Value.TheVariants.{Nothing}
use Rattle.lam_resolve_tree.specs.Tree.{block_end, block_more, stmt_tree, stmts_tree}
use Rattle.want_of_memory.specs.declared.NoMemory.{NoMemory}
use Rattle.source_walk_state.specs.declared.Control.TheVariants as control
use Rattle.source_walk_parts.specs.States.{state_of}
use Rattle.source_walk_open.proofs.StmtForms.{of_block, no_stmts, end_opens, more_opens}
use Rattle.source_walk_open.proofs.stmts.block.Goals as goal

pub returns-in-None : goal.returns-in-None
returns-in-None c =
    of_block {E = NoMemory} (Ok (control.Give Nothing)) c.args.depth (state_of c.args.w.now) (state_of c.args.w.now) (stmts_tree c.args.rest.now) block_end (no_stmts c.args.rest.now c.in-None.ensures.cases) (end_opens (state_of c.args.w.now) c.args.depth)

pub returns-in_ok-push-in-Some : goal.returns-in_ok-push-in-Some
returns-in_ok-push-in-Some c =
    of_block {E = NoMemory} (Ok (control.Exec c.args.depth c.in-Some.s)) c.args.depth (state_of c.args.w.now) (state_of c.push.new.w) (stmts_tree c.args.rest.now) (block_more (stmt_tree c.in-Some.s.now) (stmts_tree c.in-Some.body.now)) (ap stmts_tree (c.in-Some.ensures.cases).0)
    (more_opens (state_of c.args.w.now) c.args.depth c.in-Some.s c.in-Some.body (state_of c.push.new.w) c.in_ok-push-in-Some.ensures)

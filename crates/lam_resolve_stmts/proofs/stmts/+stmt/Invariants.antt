use Rattle.lam_syntax.specs.Tree.{expr_tree, stmt_tree, stmts_tree, else_tree, if_stmt, while_stmt, sync_stmt}
use Rattle.lam_resolve_stmts.proofs.Sizes.{stmt_size, form_size, stmts_size, else_size}
use Rattle.std.proofs.Common.{◌+◌, drop}
use Rattle.lam_resolve_laws.specs.Resolved.{resolve_stmts}
use Rattle.lam_resolve_tables.specs.Tables.{tables}
use Rattle.lam_resolve_exprs.specs.Values.{locals}
use Rattle.lam_resolve_units.specs.Seen.{state}
use Rattle.lam_resolve_units.specs.Meets.{Extends}
use Rattle.lam_resolve_stmts.proofs.Blocks.{BlockSoFar}
use Rattle.lam_resolve_stmts.proofs.stmts.+stmt.Given as goal

abbrev pub decreases-resolve_stmt : goal.decreases-resolve_stmt
decreases-resolve_stmt l = stmt_size (stmt_tree l.s.now)

abbrev pub decreases-resolve_if : goal.decreases-resolve_if
decreases-resolve_if l = form_size (if_stmt (expr_tree l.test.now) (stmts_tree l.yes.now.items) (else_tree l.no.now))

abbrev pub decreases-resolve_while : goal.decreases-resolve_while
decreases-resolve_while l = form_size (while_stmt (expr_tree l.test.now) (stmts_tree l.body.now.items))

abbrev pub decreases-resolve_sync : goal.decreases-resolve_sync
decreases-resolve_sync l = form_size (sync_stmt (expr_tree l.thing.now) (stmts_tree l.body.now.items))

abbrev pub decreases-resolve_region : goal.decreases-resolve_region
decreases-resolve_region l = 3 + stmts_size (stmts_tree l.written.body.now.items) + stmts_size (stmts_tree l.written.catch_body.now.items)

abbrev pub decreases-resolve_bodies : goal.decreases-resolve_bodies
decreases-resolve_bodies l = 2 + stmts_size (stmts_tree l.body.now.items) + stmts_size (stmts_tree l.handler.now.items)

abbrev pub decreases-resolve_else : goal.decreases-resolve_else
decreases-resolve_else l = else_size (else_tree l.no.now)

abbrev pub decreases-resolve_block : goal.decreases-resolve_block
decreases-resolve_block l = 1 + stmts_size (stmts_tree l.body.now.items)

abbrev pub decreases-resolve_stmts : goal.decreases-resolve_stmts
decreases-resolve_stmts l = stmts_size (stmts_tree l.body.now)

abbrev pub invariant-resolve_stmts-loop-s : goal.invariant-resolve_stmts-loop-s
invariant-resolve_stmts-loop-s l = record {
  sofar : BlockSoFar (resolve_stmts (tables l.t) (locals l.initial.scope) (state l.initial.st) (stmts_tree l.body)) (resolve_stmts (tables l.t) (locals l.scope) (state l.st) (stmts_tree (drop l.s-index l.body))) l.out.items;
  extends : Extends (locals l.initial.scope) (locals l.scope);
}

use Rattle.std.proofs.Common.{string_bytes, max, ◌+◌, ◌*◌}
use denote.Param.Weighed.{most}
use Rattle.lam_syntax.specs.declared.Stmt.{size-Stmt}
use Rattle.lam_syntax.specs.declared.StmtKind.TheShapes.{weighed-StmtKind-If-2}
use Rattle.lam_print.proofs.Steps.{EachSoFar}
use Rattle.lam_print.proofs.Views.{all_stmts}
use Rattle.lam_print.proofs.stmts.+stmt.Given as goal

abbrev pub invariant-put_block-loop-x : goal.invariant-put_block-loop-x
invariant-put_block-loop-x l = EachSoFar (all_stmts l.inner) l.body (string_bytes l.initial.out) (string_bytes l.out) l.x-index

-- a function that is passed a part goes before those that it calls on the same part
abbrev pub decreases-put_block : goal.decreases-put_block
decreases-put_block l = 4 * goal.size-put_block l + 1

abbrev pub decreases-put_stmt : goal.decreases-put_stmt
decreases-put_stmt l = 4 * goal.size-put_stmt l

abbrev pub decreases-put_kind : goal.decreases-put_kind
decreases-put_kind l = 4 * goal.size-put_kind l

abbrev pub decreases-put_if : goal.decreases-put_if
decreases-put_if l = 4 * max (most (λ x. size-Stmt x) l.yes.now) ((weighed-StmtKind-If-2).weight _ size-Stmt l.no.now) + 3

abbrev pub decreases-put_else : goal.decreases-put_else
decreases-put_else l = 4 * goal.size-put_else l + 2

abbrev pub decreases-put_while : goal.decreases-put_while
decreases-put_while l = 4 * most (λ x. size-Stmt x) l.body.now + 2

abbrev pub decreases-put_sync : goal.decreases-put_sync
decreases-put_sync l = 4 * most (λ x. size-Stmt x) l.body.now + 2

abbrev pub decreases-put_catch : goal.decreases-put_catch
decreases-put_catch l = 4 * most (λ x. size-Stmt x) l.body.now + 2

use Rattle.std.proofs.Common.{List, max, ◌+◌, ◌*◌}
use denote.Param.Weighed.{most}
use Rattle.lam_syntax.specs.declared.Stmt.{Stmt, size-Stmt}
use Rattle.lam_syntax.specs.declared.StmtKind.TheShapes.{weighed-StmtKind-If-2}
use Rattle.lam_syntax.specs.Tree.{stmts_tree}
use Rattle.lam_syntax.specs.Unplaced.{unplaced_stmts}
use Rattle.lam_syntax.proofs.Lists.{SameSoFar}
use Rattle.lam_sameness.proofs.+same_stmt.Given as goal

abbrev pub invariant-same_stmts-loop-i : goal.invariant-same_stmts-loop-i
invariant-same_stmts-loop-i l = SameSoFar (λ (xs : List Stmt). unplaced_stmts (stmts_tree xs)) l.a l.b l.i

-- a function that is passed a part goes before those that it calls on the same part
abbrev pub decreases-same_stmts : goal.decreases-same_stmts
decreases-same_stmts l = 4 * goal.size-same_stmts l + 1

abbrev pub decreases-same_stmt : goal.decreases-same_stmt
decreases-same_stmt l = 4 * goal.size-same_stmt l

abbrev pub decreases-same_stmt_kind : goal.decreases-same_stmt_kind
decreases-same_stmt_kind l = 4 * goal.size-same_stmt_kind l

abbrev pub decreases-same_if : goal.decreases-same_if
decreases-same_if l = 4 * max (most (λ x. size-Stmt x) l.yes.now) ((weighed-StmtKind-If-2).weight _ size-Stmt l.no.now) + 3

abbrev pub decreases-same_else : goal.decreases-same_else
decreases-same_else l = 4 * goal.size-same_else l + 2

abbrev pub decreases-same_while : goal.decreases-same_while
decreases-same_while l = 4 * most (λ x. size-Stmt x) l.body.now + 2

abbrev pub decreases-same_sync : goal.decreases-same_sync
decreases-same_sync l = 4 * most (λ x. size-Stmt x) l.body.now + 2

abbrev pub decreases-same_region : goal.decreases-same_region
decreases-same_region l = 4 * max (most (λ x. size-Stmt x) l.body.now) (most (λ x. size-Stmt x) l.catch_body.now) + 2

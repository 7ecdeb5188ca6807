use Rattle.std.proofs.Common.{List, max, ◌+◌, ◌*◌}
use denote.Param.Weighed.{most}
use Rattle.lam_syntax.specs.declared.Expr.{Expr, size-Expr}
use Rattle.lam_syntax.specs.Tree.{exprs_tree}
use Rattle.lam_syntax.specs.Unplaced.{unplaced_exprs}
use Rattle.lam_syntax.proofs.Lists.{SameSoFar}
use Rattle.lam_sameness.proofs.+same_expr.Given as goal

abbrev pub invariant-same_exprs-loop-i : goal.invariant-same_exprs-loop-i
invariant-same_exprs-loop-i l = SameSoFar (λ (xs : List Expr). unplaced_exprs (exprs_tree xs)) l.a l.b l.i

-- a function that is passed a part goes before those that it calls on the same part
abbrev pub decreases-same_exprs : goal.decreases-same_exprs
decreases-same_exprs l = 3 * goal.size-same_exprs l + 1

abbrev pub decreases-same_expr : goal.decreases-same_expr
decreases-same_expr l = 3 * goal.size-same_expr l

abbrev pub decreases-same_expr_kind : goal.decreases-same_expr_kind
decreases-same_expr_kind l = 3 * goal.size-same_expr_kind l

abbrev pub decreases-same_binary : goal.decreases-same_binary
decreases-same_binary l = 3 * max (size-Expr l.left.now) (size-Expr l.right.now) + 2

abbrev pub decreases-same_unary : goal.decreases-same_unary
decreases-same_unary l = 3 * size-Expr l.of.now + 2

abbrev pub decreases-same_field : goal.decreases-same_field
decreases-same_field l = 3 * size-Expr l.of.now + 2

abbrev pub decreases-same_element : goal.decreases-same_element
decreases-same_element l = 3 * max (size-Expr l.of.now) (size-Expr l.index.now) + 2

abbrev pub decreases-same_call : goal.decreases-same_call
decreases-same_call l = 3 * most (λ x. size-Expr x) l.args.now + 2

abbrev pub decreases-same_new_array : goal.decreases-same_new_array
decreases-same_new_array l = 3 * size-Expr l.length.now + 2

abbrev pub decreases-same_label : goal.decreases-same_label
decreases-same_label l = 3 * max (most (λ x. size-Expr x) l.s.now) (most (λ x. size-Expr x) l.i.now) + 2

abbrev pub decreases-same_spawn : goal.decreases-same_spawn
decreases-same_spawn l = 3 * max (size-Expr l.caps.now) (most (λ x. size-Expr x) l.args.now) + 2

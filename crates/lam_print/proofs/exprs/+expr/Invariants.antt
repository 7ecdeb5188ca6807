use Rattle.std.proofs.Common.{string_bytes, max, ◌+◌, ◌*◌}
use denote.Param.Weighed.{most}
use Rattle.lam_syntax.specs.declared.Expr.{size-Expr}
use Rattle.lam_print.proofs.Steps.{ListedSoFar}
use Rattle.lam_print.proofs.Views.{all_of_args, all_of_tags}
use Rattle.lam_print.proofs.exprs.+expr.Given as goal

abbrev pub invariant-put_args-loop-i : goal.invariant-put_args-loop-i
invariant-put_args-loop-i l = ListedSoFar all_of_args l.args (string_bytes l.initial.out) (string_bytes l.out) l.i

abbrev pub invariant-put_tags-loop-i : goal.invariant-put_tags-loop-i
invariant-put_tags-loop-i l = ListedSoFar all_of_tags l.tags (string_bytes l.initial.out) (string_bytes l.out) l.i

-- a function that is passed a part goes before those that it calls on the same part
abbrev pub decreases-put_args : goal.decreases-put_args
decreases-put_args l = 4 * goal.size-put_args l + 1

abbrev pub decreases-put_tags : goal.decreases-put_tags
decreases-put_tags l = 4 * goal.size-put_tags l + 1

abbrev pub decreases-put_expr : goal.decreases-put_expr
decreases-put_expr l = 4 * goal.size-put_expr l

abbrev pub decreases-put_kind : goal.decreases-put_kind
decreases-put_kind l = 4 * goal.size-put_kind l

abbrev pub decreases-put_binary : goal.decreases-put_binary
decreases-put_binary l = 4 * max (size-Expr l.left.now) (size-Expr l.right.now) + 2

abbrev pub decreases-put_unary : goal.decreases-put_unary
decreases-put_unary l = 4 * size-Expr l.of.now + 2

abbrev pub decreases-put_call : goal.decreases-put_call
decreases-put_call l = 4 * most (λ x. size-Expr x) l.args.now + 2

abbrev pub decreases-put_new_array : goal.decreases-put_new_array
decreases-put_new_array l = 4 * size-Expr l.length.now + 2

abbrev pub decreases-put_label : goal.decreases-put_label
decreases-put_label l = 4 * max (most (λ x. size-Expr x) l.s.now) (most (λ x. size-Expr x) l.i.now) + 2

abbrev pub decreases-put_spawn : goal.decreases-put_spawn
decreases-put_spawn l = 4 * max (size-Expr l.caps.now) (most (λ x. size-Expr x) l.args.now) + 3

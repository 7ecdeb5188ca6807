use Rattle.std.proofs.Common.{◌+◌, drop}
use Rattle.lam_syntax.specs.Tree.{expr_tree, exprs_tree, id_tree, type_tree, new_array_expr, label_expr, spawn_expr}
use Rattle.lam_resolve_tables.specs.Resolved.{resolve_args}
use Rattle.lam_resolve_tables.specs.Kinds.{given}
use Rattle.lam_resolve_tables.specs.Tables.{tables}
use Rattle.lam_resolve_exprs.specs.Values.{locals}
use Rattle.lam_resolve_exprs.proofs.Arguments.{ArgsSoFar}
use Rattle.lam_resolve_exprs.proofs.Sizes.{expr_size, form_size, args_size}
use Rattle.lam_resolve_exprs.proofs.exprs.+expr.Given as goal

abbrev pub decreases-resolve_expr : goal.decreases-resolve_expr
decreases-resolve_expr l = expr_size (expr_tree l.e.now)

abbrev pub decreases-resolve_array : goal.decreases-resolve_array
decreases-resolve_array l = 1 + form_size (new_array_expr (type_tree l.element.now) (expr_tree l.length.now))

abbrev pub decreases-resolve_label : goal.decreases-resolve_label
decreases-resolve_label l = 1 + form_size (label_expr (exprs_tree l.s.now.items) (exprs_tree l.i.now.items))

abbrev pub decreases-resolve_spawn : goal.decreases-resolve_spawn
decreases-resolve_spawn l = 1 + form_size (spawn_expr (expr_tree l.caps.now) (id_tree l.function.now) (exprs_tree l.args.now.items))

abbrev pub decreases-resolve_args : goal.decreases-resolve_args
decreases-resolve_args l = args_size (exprs_tree l.args.now.items)

abbrev pub invariant-resolve_args-loop-i : goal.invariant-resolve_args-loop-i
invariant-resolve_args-loop-i l =
    ArgsSoFar (resolve_args (tables l.t) (locals l.scope) (exprs_tree l.args.items)) (resolve_args (tables l.t) (locals l.scope) (exprs_tree (drop l.i l.args.items))) l.it.items l.i (given l.first)

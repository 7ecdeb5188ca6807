use Rattle.std.proofs.Common.{◌≡◌, drop}
use Rattle.lam_syntax.specs.Tree.{exprs_tree}
use Rattle.lam_types_kinds.specs.Values.{decls, names, places, given}
use Rattle.lam_types_exprs.specs.Exprs.{args_given, tags_given}
use Rattle.lam_types_exprs.proofs.Loops.{after}
use Rattle.lam_types_exprs.proofs.+expr.Given as goal

abbrev pub invariant-check_args-loop-i : goal.invariant-check_args-loop-i
invariant-check_args-loop-i l =
    args_given (decls l.known) (names l.env.entries) (places l.wants) (exprs_tree l.args) ≡ after (decls l.known) (names l.env.entries) l.i (given l.first) (places (drop l.i l.wants)) (exprs_tree (drop l.i l.args))

abbrev pub invariant-check_tags-loop-x : goal.invariant-check_tags-loop-x
invariant-check_tags-loop-x l =
    tags_given (decls l.known) (names l.env.entries) (exprs_tree l.tags.items) ≡ tags_given (decls l.known) (names l.env.entries) (exprs_tree (drop l.x-index l.tags.items))

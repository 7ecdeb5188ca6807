use Rattle.std.proofs.Common.{◌≡◌, drop}
use Rattle.lam_syntax.specs.Tree.{ids_tree}
use Rattle.lam_types_kinds.specs.Values.{names}
use Rattle.lam_types.specs.Stmts.{captured}
use Rattle.lam_types.proofs.stmts.check_captures.Given as goal

abbrev pub invariant-loop-x : goal.invariant-loop-x
invariant-loop-x l = captured (names l.env.entries) l.initial.c (ids_tree l.xs) ≡ captured (names l.env.entries) l.c (ids_tree (drop l.x-index l.xs))

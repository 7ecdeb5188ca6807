use Rattle.std.proofs.Common.{◌≡◌, drop}
use Rattle.lam_syntax.specs.Tree.{stmts_tree}
use Rattle.lam_types_kinds.specs.Values.{decls, names, option_type, Extends}
use Rattle.lam_types.specs.Stmts.{stmts_checked}
use Rattle.lam_types.proofs.stmts.+stmt.Given as goal

abbrev pub invariant-check_stmts-loop-s : goal.invariant-check_stmts-loop-s
invariant-check_stmts-loop-s l =
    (stmts_checked (decls l.known) (option_type l.want) (names l.initial.env.entries) l.initial.c (stmts_tree l.body) ≡ stmts_checked (decls l.known) (option_type l.want) (names l.env.entries) l.c (stmts_tree (drop l.s-index l.body))) × Extends l.initial.env.entries l.env.entries

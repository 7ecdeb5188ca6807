use Rattle.std.proofs.Common.{◌≡◌, drop}
use Rattle.lam_syntax.specs.Tree.{stmts_tree}
use Rattle.region_check.specs.Breaks.{stmts_checked}
use Rattle.region_check.specs.Values.{texts, Extends}
use Rattle.region_check.proofs.+stmt.Given as goal

abbrev pub invariant-check_stmts-loop-s : goal.invariant-check_stmts-loop-s
invariant-check_stmts-loop-s l =
    (stmts_checked l.inside (texts l.initial.own.keys) (stmts_tree l.body) ≡ stmts_checked l.inside (texts l.own.keys) (stmts_tree (drop l.s-index l.body))) × Extends l.initial.own.keys l.own.keys

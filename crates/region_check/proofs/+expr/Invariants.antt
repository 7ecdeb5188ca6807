use Rattle.std.proofs.Common.{◌≡◌, drop}
use Rattle.lam_syntax.specs.Tree.{exprs_tree}
use Rattle.region_check.specs.Breaks.{exprs_checked}
use Rattle.region_check.specs.Values.{texts}
use Rattle.region_check.proofs.+expr.Given as goal

abbrev pub invariant-check_exprs-loop-e : goal.invariant-check_exprs-loop-e
invariant-check_exprs-loop-e l = exprs_checked l.inside (texts l.own.keys) (exprs_tree l.all.items) ≡ exprs_checked l.inside (texts l.own.keys) (exprs_tree (drop l.e-index l.all.items))

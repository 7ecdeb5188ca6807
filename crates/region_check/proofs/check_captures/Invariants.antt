use Rattle.std.proofs.Common.{◌≡◌, drop, []}
use Rattle.lam_syntax.specs.Tree.{ids_tree}
use Rattle.region_check.specs.Breaks.{captures_checked}
use Rattle.region_check.specs.Values.{texts}
use Rattle.region_check.proofs.check_captures.Given as goal

abbrev pub invariant-loop-x : goal.invariant-loop-x
invariant-loop-x l = captures_checked l.inside (texts l.own.keys) [] (ids_tree l.xs) ≡ captures_checked l.inside (texts l.own.keys) (texts l.seen.keys) (ids_tree (drop l.x-index l.xs))

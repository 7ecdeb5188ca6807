use Rattle.std.proofs.Common.{◌≡◌, drop}
use Rattle.lam_syntax.specs.Tree.{caps_tree}
use Rattle.region_check.specs.Breaks.{caps_checked}
use Rattle.region_check.specs.Values.{texts}
use Rattle.region_check.proofs.check_caps.Given as goal

abbrev pub invariant-loop-item : goal.invariant-loop-item
invariant-loop-item l = caps_checked l.inside (texts l.own.keys) (caps_tree l.items) ≡ caps_checked l.inside (texts l.own.keys) (caps_tree (drop l.item-index l.items))

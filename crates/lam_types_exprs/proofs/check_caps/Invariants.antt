use Rattle.std.proofs.Common.{◌≡◌, drop}
use Rattle.lam_syntax.specs.Tree.{caps_tree}
use Rattle.lam_types_kinds.specs.Values.{names}
use Rattle.lam_types_exprs.specs.Exprs.{cap_tags}
use Rattle.lam_types_exprs.proofs.check_caps.Given as goal

abbrev pub invariant-loop-item : goal.invariant-loop-item
invariant-loop-item l = cap_tags (names l.env.entries) (caps_tree l.items) ≡ cap_tags (names l.env.entries) (caps_tree (drop l.item-index l.items))

use Rattle.std.proofs.Common.{drop}
use Rattle.lam_syntax.specs.Tree.{caps_tree as written_caps}
use Rattle.lam_resolve_tree.specs.Tree.{caps_tree}
use Rattle.lam_resolve_tables.specs.Resolved.{resolve_caps}
use Rattle.lam_resolve_exprs.specs.Values.{locals}
use Rattle.lam_resolve_tables.proofs.Options.{Collected}
use Rattle.lam_resolve_exprs.proofs.values.resolve_caps.Given as goal

abbrev pub invariant-loop-item : goal.invariant-loop-item
invariant-loop-item l = Collected (resolve_caps (locals l.scope) (written_caps l.items)) (resolve_caps (locals l.scope) (written_caps (drop l.item-index l.items))) (caps_tree l.out.items)

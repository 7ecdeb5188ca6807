use Rattle.std.proofs.Common.{◌≡◌, drop}
use Rattle.capabilities.specs.Changes.{no_caps}
use Rattle.lam_value.specs.declared.values.Value.TheVariants.{CapV}
use Rattle.lam_resolve_tree.specs.Tree.{caps_tree}
use Rattle.source_walk_state.specs.declared.Control.TheVariants.{Give}
use Rattle.source_walk_open.specs.Signed.{with_items}
use Rattle.source_walk_open.proofs.caps.capabilities.Given as goal

abbrev pub invariant-loop-item : goal.invariant-loop-item
invariant-loop-item l = with_items (Give (CapV no_caps.plus no_caps.minus)) l.locals (caps_tree l.items) ≡ with_items l.control l.locals (caps_tree (drop l.item-index l.items))

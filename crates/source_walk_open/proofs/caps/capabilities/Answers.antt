use Rattle.std.proofs.Common.{ap, sym, ◌∙◌}
use Rattle.capabilities.specs.declared.Caps.{Caps}
use Rattle.capabilities.specs.Changes.{no_caps}
use Rattle.lam_value.specs.declared.values.Value.TheVariants.{CapV}
use Rattle.lam_resolve_tree.specs.Tree.{caps_tree}
use Rattle.source_walk_state.specs.declared.Control.TheVariants.{Give}
use Rattle.source_walk_open.specs.Signed.{with_items}
use Rattle.source_walk_open.proofs.Signing.{item_more, items_done}
use Rattle.source_walk_open.proofs.caps.capabilities.Goals as goal

pub loop-item-init : goal.loop-item-init
loop-item-init c = ap (λ (k : Caps). with_items (Give (CapV k.plus k.minus)) c.args.locals.now (caps_tree c.args.items.now)) (sym c.none-plus.ensures)

pub loop-item-preserved : goal.loop-item-preserved
loop-item-preserved c =
    item_more (with_items (Give (CapV no_caps.plus no_caps.minus)) c.args.locals.now (caps_tree c.args.items.now)) c.loop-item.control c.in_ok-control.control c.args.locals.now c.args.items.now c.loop-item.item-index _ c.loop-item-test.true c.loop-item.invariant c.in_ok-control.ensures

pub returns : goal.returns
returns c = sym (c.loop-item.invariant ∙ items_done c.loop-item.control c.args.locals.now c.args.items.now c.loop-item.item-index c.loop-item-test.false)

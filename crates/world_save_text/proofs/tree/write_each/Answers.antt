use Rattle.std.proofs.Common.{◌∙◌, ap}
use Rattle.world_save_terms.specs.Items.{below}
use Rattle.world_save_text.proofs.Lists.{measured_here, measured_more, item_written, no_items, list_end}
use Rattle.world_save_text.proofs.tree.write_each.Goals as goal

pub write_item-requires : goal.write_item-requires
write_item-requires c =
    measured_here c.args.names.now c.args.files.now c.args.steps.now c.loop-step.step-index c.step-item.result c.loop-step-test.true c.step-item.is c.loop-step.path.items c.as_slice.result.now
    (c.as_slice.ensures.value ∙ c.in_ok-lengthen.ensures ∙ ap (λ p. below p c.step-item.result.entry.now) c.truncate.ensures.items)
    c.loop-step.invariant.measured

pub loop-step-preserved : goal.loop-step-preserved
loop-step-preserved c =
    let e = c.in_ok-lengthen.ensures ∙ ap (λ p. below p c.step-item.result.entry.now) c.truncate.ensures.items in
    record {
      written =
          item_written c.args.names.now c.args.files.now c.args.steps.now c.loop-step.step-index c.step-item.result c.loop-step-test.true c.step-item.is c.loop-step.path.items _ _ _ _ c.loop-step.later c.lengthen.new.path.items c.as_slice.result.now e
          c.as_slice.ensures.value c.loop-step.invariant.written c.in_ok-write_item.ensures;
      measured = measured_more c.args.names.now c.args.files.now c.args.steps.now c.loop-step.step-index c.step-item.result c.loop-step-test.true c.step-item.is c.loop-step.path.items c.lengthen.new.path.items e c.loop-step.invariant.measured;
    }

pub returns : goal.returns
returns c = list_end c.raw.result _ _ _ _ c.loop-step.later _ (no_items c.args.names.now c.args.files.now c.args.steps.now c.loop-step.step-index c.loop-step.path.items c.loop-step-test.false) c.loop-step.invariant.written c.raw.ensures

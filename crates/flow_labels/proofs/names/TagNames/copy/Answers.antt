use Rattle.std.proofs.Common.{ap, map, ◌∙◌, string_bytes}
use Rattle.flow_labels.proofs.NameLemmas.{AreNames_same, IsNameAt, name_at, is_named, is_new, one_copied}
use Rattle.flow_labels.proofs.names.TagNames.copy.Goals as goal

pub push-requires-clause-named : goal.push-requires-clause-named
push-requires-clause-named c =
    let at : IsNameAt c.args.self.now c.loop-text.text-index c.as_str.result.now = name_at string_bytes _ _ c.text-item.result _ _ (ap (map string_bytes) c.deref-text-items.ensures.value ∙ c.self.view_is) c.loop-text-test.true c.text-item.is c.as_str.ensures.value in
    is_named _ _ _ (AreNames_same _ _ c.self.view_is c.self.invariant.named) at

pub push-requires-clause-new : goal.push-requires-clause-new
push-requires-clause-new c =
    let at : IsNameAt c.args.self.now c.loop-text.text-index c.as_str.result.now = name_at string_bytes _ _ c.text-item.result _ _ (ap (map string_bytes) c.deref-text-items.ensures.value ∙ c.self.view_is) c.loop-text-test.true c.text-item.is c.as_str.ensures.value in
    is_new _ _ _ _ (AreNames_same _ _ c.self.view_is c.self.invariant.named) at c.loop-text.invariant

pub loop-text-preserved : goal.loop-text-preserved
loop-text-preserved c =
    let at : IsNameAt c.args.self.now c.loop-text.text-index c.as_str.result.now = name_at string_bytes _ _ c.text-item.result _ _ (ap (map string_bytes) c.deref-text-items.ensures.value ∙ c.self.view_is) c.loop-text-test.true c.text-item.is c.as_str.ensures.value in
    one_copied _ _ _ _ _ at c.loop-text.invariant c.in_ok-push.ensures.ok

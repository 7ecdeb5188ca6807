use Rattle.std.proofs.Common.{ap, sym, ◌∙◌, is_some}
use Rattle.std.proofs.lemmas.List.{drop_all}
use Rattle.lam_syntax.specs.Tree.{caps_tree as written_caps, cap_tree as written_cap}
use Rattle.lam_resolve_tree.specs.Tree.{caps_tree, cap_tree}
use Rattle.lam_resolve_tables.specs.Resolved.{resolve_caps}
use Rattle.lam_resolve_exprs.specs.Values.{locals}
use Rattle.lam_resolve_tables.proofs.Options.{collected_first, collected_some, collected_one, collected_last, one_more}
use Rattle.lam_resolve_exprs.proofs.ValueSteps.{cap_needs, caps_step, caps_push}
use Rattle.lam_resolve_exprs.proofs.values.resolve_caps.Goals as goal

pub loop-item-init : goal.loop-item-init
loop-item-init c = collected_first _ _ (ap caps_tree c.new-out.ensures.items)

pub resolve_cap-requires : goal.resolve_cap-requires
resolve_cap-requires c =
    let h = collected_some _ _ _ c.loop-item.invariant c.requires in
    cap_needs (locals c.args.scope.now) (written_cap c.item-item.result) _
    (sym (ap (λ l. is_some (resolve_caps (locals c.args.scope.now) (written_caps l))) (one_more c.args.items.now c.loop-item.item-index c.item-item.result c.loop-item-test.true c.item-item.is)) ∙ h)

pub loop-item-preserved : goal.loop-item-preserved
loop-item-preserved c =
    collected_one _ _ _ _ (λ x. x) (cap_tree c.resolve_cap.result) _ _ c.loop-item.invariant
    (caps_step (locals c.args.scope.now) c.args.items.now c.loop-item.item-index c.item-item.result c.loop-item-test.true c.item-item.is) c.resolve_cap.ensures
    (ap caps_tree c.in_ok-push.ensures.items ∙ caps_push c.loop-item.out.items c.resolve_cap.result)

pub returns : goal.returns
returns c = collected_last _ _ _ c.loop-item.invariant (ap (λ l. resolve_caps (locals c.args.scope.now) (written_caps l)) (drop_all c.loop-item.item-index c.args.items.now c.loop-item-test.false))

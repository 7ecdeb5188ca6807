use Rattle.std.proofs.Common.{ap, sym, ◌∙◌, ◌++◌, ◌∷◌, [], is_some}
use Rattle.std.proofs.lemmas.List.{drop_all}
use Rattle.lam_syntax.specs.Tree.{ids_tree, id_tree}
use Rattle.lam_resolve_laws.specs.Resolved.{resolve_captures}
use Rattle.lam_resolve_exprs.specs.Values.{locals, local}
use Rattle.lam_resolve_tables.proofs.Options.{collected_first, collected_some, collected_one, collected_last, first_some, map_push}
use Rattle.lam_resolve_units.specs.Seen.{captured}
use Rattle.lam_resolve_units.proofs.UnitSteps.{captures_step}
use Rattle.lam_resolve_units.proofs.units.resolve_captures.Goals as goal

pub loop-x-init : goal.loop-x-init
loop-x-init c = collected_first _ _ (ap captured c.new-captures.ensures.items)

pub capture-requires : goal.capture-requires
capture-requires c =
    let h = collected_some _ _ _ c.loop-x.invariant c.requires in
    first_some _ _ (sym (ap is_some (captures_step (locals c.args.scope.now) c.args.xs.now c.loop-x.x-index c.x-item.result c.loop-x-test.true c.x-item.is)) ∙ h)

pub loop-x-preserved : goal.loop-x-preserved
loop-x-preserved c =
    collected_one _ _ _ _ (λ l. ((id_tree c.x-item.result).word, l)) (local c.capture.result.1) _ _ c.loop-x.invariant
    (captures_step (locals c.args.scope.now) c.args.xs.now c.loop-x.x-index c.x-item.result c.loop-x-test.true c.x-item.is) c.capture.ensures.local
    (ap captured c.in_ok-push.ensures.items ∙ map_push (λ c. (c.0.now, local c.1)) c.loop-x.captures.items c.capture.result ∙ ap (λ w. captured c.loop-x.captures.items ++ (w, local c.capture.result.1) ∷ []) c.capture.ensures.name)

pub returns : goal.returns
returns c = collected_last _ _ _ c.loop-x.invariant (ap (λ l. resolve_captures (locals c.args.scope.now) (ids_tree l)) (drop_all c.loop-x.x-index c.args.xs.now c.loop-x-test.false))

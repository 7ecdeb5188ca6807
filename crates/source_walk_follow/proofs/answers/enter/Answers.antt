use Rattle.std.proofs.Common.{ap, ◌∙◌}
use Rattle.source_walk_state.specs.declared.BeforeRegion.TheVariants as part
use Rattle.source_walk_state.specs.declared.Frame.TheVariants as frame
use Rattle.source_walk_parts.specs.States.{State, state_of, pushed, begun}
use Rattle.source_walk_follow.proofs.Replies.{body_goes, locals_are}
use Rattle.source_walk_follow.proofs.answers.enter.Goals as goal

pub returns : goal.returns
returns c =
    λ r. body_goes r (state_of c.args.w.now) c.args.depth c.args.label.now c.args.caps.now c.args.region c.begin_region-outside.result c.in_ok-locals.locals (state_of c.push.new.w) c.begin_region-outside.ensures.own c.begin_region-outside.ensures.place
    (locals_are (state_of c.args.w.now).own.locals c.args.region.captures.now c.args.region.slots c.in_ok-args.args c.in_ok-locals.locals c.in_ok-args.ensures c.in_ok-locals.ensures)
    (c.in_ok-push.ensures
    ∙ ap (λ (s : State). pushed s (frame.Region c.args.depth c.args.region (part.Body c.begin_region-outside.result))) (c.begin_region-outside.ensures.state ∙ (λ i. begun (state_of c.args.w.now) (c.in_ok-label.ensures i) (c.in_ok-caps.ensures i) c.in_ok-locals.locals)))

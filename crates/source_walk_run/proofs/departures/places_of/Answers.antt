use Rattle.std.proofs.Common.{[], ◌∷◌, ◌++◌, map, ap, ◌∙◌}
use Rattle.source_walk_follow.specs.Following.{place_left}
use Rattle.source_walk_follow.proofs.Lists.{whole_taken}
use Rattle.source_walk_run.proofs.Placing.{place_more}
use Rattle.source_walk_run.proofs.departures.places_of.Goals as goal

pub loop-walk-preserved : goal.loop-walk-preserved
loop-walk-preserved c =
    place_more c.args.walks.now c.loop-walk.walk-index c.walk-item.result c.loop-walk.places.items c.push.new.self.items c.loop-walk-test.true c.walk-item.is c.loop-walk.invariant
    (c.in_ok-push.ensures.items ∙ ap (λ at. c.loop-walk.places.items ++ at ∷ []) c.departure.ensures)

pub returns : goal.returns
returns c = c.loop-walk.invariant ∙ ap (map place_left) (whole_taken c.args.walks.now c.loop-walk.walk-index c.loop-walk-test.false)

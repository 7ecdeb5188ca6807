use Rattle.std.proofs.Common.{◌≡◌, ℕ, ◌+◌, ◌<◌, ◌++◌, List, Option, ap, ◌∙◌, arith}
use Rattle.std.specs.Prelude.{drop}
use Rattle.seat_host.specs.Places.{spread}
use Rattle.seat_host.proofs.Merging.{goes_on}
use Rattle.seat_host.proofs.book.places_in.Goals as goal

pub loop-k-init : goal.loop-k-init
loop-k-init c = (c.args.count, omega arith, ap (λ (l : List (Option ℕ)). l ++ spread 0 c.args.count c.args.held.now c.args.turns.now) c.new-places.ensures.items)

pub loop-k-preserved : goal.loop-k-preserved
loop-k-preserved c =
    let inv = c.loop-k.invariant in
    let place = c.place_at-place in
    let lt : c.loop-k.k < c.args.count = (let t = c.loop-k-test.true in omega (arith, t)) in
    let on = goes_on c.loop-k.k c.args.count inv.0 c.loop-k.next place.result.1 c.args.held.now c.args.turns.now c.loop-k.places.items (spread 0 c.args.count c.args.held.now c.args.turns.now) place.result.0 lt inv.1 place.ensures.place place.ensures.next inv.2 in
    (on.0, on.1, ap (λ (l : List (Option ℕ)). l ++ spread (c.loop-k.k + 1) on.0 (drop place.result.1 c.args.held.now) (drop place.result.1 c.args.turns.now)) c.in_ok-push.ensures.items ∙ on.2)

use Rattle.std.proofs.Common.{◌≤◌, ◌∙◌, ◌+◌, ◌-◌, ap, sym, refl, subst, drop, slice_get, arith}
use Rattle.std.proofs.lemmas.List.{drop_all}
use Rattle.lam_value_homes.specs.Homes.{homes_in}
use Rattle.lam_value_homes.proofs.Maps.{not_none}
use Rattle.lam_value_homes.proofs.Listings.{ends, place_here, place_later}
use Rattle.lam_value_homes.proofs.counters.home_at.Goals as goal

pub loop-place-init : goal.loop-place-init
loop-place-init c = refl

pub returns-in-Some-get_index : goal.returns-in-Some-get_index
returns-in-Some-get_index c =
    sym (place_here c.args.rows.now.entries c.loop-place.place c.in-Some.maker.now c.in-Some.row.now (sym c.in-Some.ensures.entry) c.loop-place.rest c.in-Some-get_index.own.now c.in-Some-get_index.count.now (sym c.in-Some-get_index.ensures.entry))
    ∙ c.loop-place.invariant

pub loop-place-preserved : goal.loop-place-preserved
loop-place-preserved c =
    ap (λ k. slice_get (homes_in (drop (c.loop-place.place + 1) c.args.rows.now.entries)) (c.loop-place.rest - k)) c.len-rest.ensures.len
    ∙ place_later c.args.rows.now.entries c.loop-place.place c.in-Some.maker.now c.in-Some.row.now (sym c.in-Some.ensures.entry) c.loop-place.rest (ends c.in-Some.row.now.entries c.loop-place.rest c.in_default-get_index.ensures.entry)
    ∙ c.loop-place.invariant

pub returns : goal.returns
returns c =
    sym (ap (λ rs. slice_get (homes_in rs) c.loop-place.rest) (drop_all c.loop-place.place c.args.rows.now.entries (subst (λ n. n ≤ c.loop-place.place) c.len-place-end.ensures.len c.loop-place-test.false)))
    ∙ c.loop-place.invariant

pub unreachable-requires : goal.unreachable-requires
unreachable-requires c = not_none _ (c.get_index.ensures.found.1 (omega (arith, c.len-place-end.ensures.len))) c.in_default.is

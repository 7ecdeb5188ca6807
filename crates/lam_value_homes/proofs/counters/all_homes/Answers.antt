use Rattle.std.proofs.Common.{◌∙◌, ap, sym, map, arith}
use Rattle.lam_value_homes.specs.Homes.{homes_in, listed_home}
use Rattle.lam_value_homes.proofs.Maps.{not_none}
use Rattle.lam_value_homes.proofs.Rows.{taken_all}
use Rattle.lam_value_homes.proofs.Listings.{one_maker_more}
use Rattle.lam_value_homes.proofs.counters.all_homes.Goals as goal

pub loop-place-init : goal.loop-place-init
loop-place-init c = ap (map listed_home) c.new-homes.ensures.items

pub loop-place-preserved : goal.loop-place-preserved
loop-place-preserved c =
    one_maker_more c.args.rows.now.entries c.loop-place.place c.in-Some.maker.now c.in-Some.row.now (sym c.in-Some.ensures.entry) (map listed_home c.loop-place.homes.items) _ c.loop-place.invariant c.in_ok-push_row.ensures

pub returns : goal.returns
returns c = c.loop-place.invariant ∙ ap (λ rs. homes_in rs) (taken_all c.args.rows.now.entries c.loop-place.place c.len-place-end.result c.loop-place-test.false c.len-place-end.ensures.len)

pub unreachable-requires : goal.unreachable-requires
unreachable-requires c = not_none _ (c.get_index.ensures.found.1 (omega (arith, c.len-place-end.ensures.len))) c.in_default.is

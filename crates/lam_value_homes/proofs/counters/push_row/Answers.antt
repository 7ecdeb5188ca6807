use Rattle.std.proofs.Common.{◌∙◌, ◌++◌, ap, sym, map, arith}
use Rattle.std.proofs.lemmas.List.{append-nil}
use Rattle.lam_value_homes.specs.Homes.{homes_of, listed_home}
use Rattle.lam_value_homes.proofs.Maps.{not_none}
use Rattle.lam_value_homes.proofs.Rows.{taken_all}
use Rattle.lam_value_homes.proofs.Listings.{one_home_more}
use Rattle.lam_value_homes.proofs.counters.push_row.Goals as goal

pub loop-at-init : goal.loop-at-init
loop-at-init c = sym (append-nil (map listed_home c.args.homes.now.items))

pub loop-at-preserved : goal.loop-at-preserved
loop-at-preserved c =
    one_home_more c.args.maker c.in-Some.own c.in-Some.count.now c.args.row.now.entries c.loop-at.at (sym c.in-Some.ensures.entry) c.args.homes.now.items c.loop-at.homes.items _ c.in_ok-push.ensures.items c.loop-at.invariant

pub returns : goal.returns
returns c = c.loop-at.invariant ∙ ap (λ es. map listed_home c.args.homes.now.items ++ homes_of c.args.maker.now es) (taken_all c.args.row.now.entries c.loop-at.at c.len-at-end.result c.loop-at-test.false c.len-at-end.ensures.len)

pub unreachable-requires : goal.unreachable-requires
unreachable-requires c = not_none _ (c.get_index.ensures.found.1 (omega (arith, c.len-at-end.ensures.len))) c.in_default.is

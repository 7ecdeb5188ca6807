use Rattle.world_save_rows.proofs.Leasts.{one_home_more, all_homes}
use Rattle.world_save_rows.proofs.unnamed.least_among.Goals as goal

pub loop-home-init : goal.loop-home-init
loop-home-init c = λ t h. h

pub loop-home-preserved : goal.loop-home-preserved
loop-home-preserved c = one_home_more c.args.count c.args.homes.now c.loop-home.home-index c.home-item.result c.loop-home-test.true c.home-item.is c.loop-home.least c.least_in_home.result c.lesser-least.result c.loop-home.invariant c.least_in_home.ensures c.lesser-least.ensures

pub returns : goal.returns
returns c = all_homes c.args.count c.args.homes.now c.loop-home.home-index c.loop-home-test.false c.loop-home.least c.loop-home.invariant

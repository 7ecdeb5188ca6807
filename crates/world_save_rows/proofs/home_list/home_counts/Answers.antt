use Rattle.std.proofs.Common.{refl}
use Rattle.world_save_rows.proofs.Listed.{one_home_more, all_homes}
use Rattle.world_save_rows.proofs.home_list.home_counts.Goals as goal

pub loop-home-preserved : goal.loop-home-preserved
loop-home-preserved c =
    one_home_more c.loop-home.home-index c.args.listed.now c.home-item.result c.loop-home-test.true c.home-item.is c.loop-home.homes.items c.push.new.self.items _ c.in_ok-push.ensures.items refl c.loop-home.invariant

pub returns : goal.returns
returns c = all_homes c.loop-home.home-index c.args.listed.now c.loop-home-test.false c.loop-home.homes.items c.loop-home.invariant

use Rattle.world_save_rows.proofs.Listed.{one_row_more, all_rows}
use Rattle.world_save_rows.proofs.order.unsorted.Goals as goal

pub loop-home-preserved : goal.loop-home-preserved
loop-home-preserved c =
    one_row_more c.args.names.now c.args.homes.now c.loop-home.home-index c.home-item.result c.loop-home-test.true c.home-item.is c.loop-home.rows.items c.push.new.self.items _ c.in_ok-push.ensures.items c.in_ok-row_of.ensures c.loop-home.invariant

pub returns : goal.returns
returns c = all_rows c.args.names.now c.args.homes.now c.loop-home.home-index c.loop-home-test.false c.loop-home.rows.items c.loop-home.invariant

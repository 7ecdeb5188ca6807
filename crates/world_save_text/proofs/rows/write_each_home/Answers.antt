use Rattle.std.proofs.Common.{map, drop, ap}
use Rattle.world_save_terms.specs.Rows.{row_of}
use Rattle.world_save_terms.specs.Document.{row_data}
use Rattle.world_save_rows.specs.Seen.{home_seen}
use Rattle.world_save_text.proofs.Lists.{next_item, list_end, from_place, past_end}
use Rattle.world_save_text.proofs.rows.write_each_home.Goals as goal

pub loop-home-preserved : goal.loop-home-preserved
loop-home-preserved c =
    next_item _ _ _ _ _ _ _ _ (ap (λ hs. map row_data (map (row_of c.args.names.now) (map home_seen hs))) (from_place c.args.homes.now c.loop-home.home-index c.home-item.result c.loop-home-test.true c.home-item.is)) c.loop-home.invariant c.in_ok-write_home.ensures

pub returns : goal.returns
returns c =
    list_end c.raw.result _ _ _ _ _ _ (ap (λ hs. map row_data (map (row_of c.args.names.now) (map home_seen hs))) (past_end c.args.homes.now c.loop-home.home-index c.loop-home-test.false)) c.loop-home.invariant c.raw.ensures

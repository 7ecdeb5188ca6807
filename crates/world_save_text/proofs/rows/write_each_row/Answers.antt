use Rattle.std.proofs.Common.{map, drop, ap}
use Rattle.world_save_terms.specs.Document.{row_data}
use Rattle.world_save_rows.specs.Seen.{row_seen}
use Rattle.world_save_text.proofs.Lists.{next_item, list_end, from_place, past_end}
use Rattle.world_save_text.proofs.rows.write_each_row.Goals as goal

pub loop-row-preserved : goal.loop-row-preserved
loop-row-preserved c =
    next_item _ _ _ _ _ _ _ _ (ap (λ rs. map row_data (map row_seen rs)) (from_place c.args.rows.now c.loop-row.row-index c.row-item.result c.loop-row-test.true c.row-item.is)) c.loop-row.invariant c.in_ok-write_row.ensures

pub returns : goal.returns
returns c = list_end c.raw.result _ _ _ _ _ _ (ap (λ rs. map row_data (map row_seen rs)) (past_end c.args.rows.now c.loop-row.row-index c.loop-row-test.false)) c.loop-row.invariant c.raw.ensures

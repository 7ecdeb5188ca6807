use Rattle.std.proofs.Common.{map, drop, false}
use Rattle.world_save_terms.specs.Document.{row_data}
use Rattle.world_save_text.proofs.Writings.{HasWritten}
use Rattle.world_save_rows.specs.Seen.{row_seen}
use Rattle.world_save_text.specs.Pieces.{items_left}
use Rattle.world_save_text.proofs.rows.write_each_row.Given as goal

abbrev pub invariant-loop-row : goal.invariant-loop-row
invariant-loop-row l = HasWritten l.initial.writer l.writer (items_left false (map row_data (map row_seen l.rows))) (items_left l.later (map row_data (map row_seen (drop l.row-index l.rows))))

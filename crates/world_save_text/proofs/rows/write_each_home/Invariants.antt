use Rattle.std.proofs.Common.{map, drop, false}
use Rattle.world_save_terms.specs.Document.{row_data}
use Rattle.world_save_text.proofs.Writings.{HasWritten}
use Rattle.world_save_terms.specs.Rows.{row_of}
use Rattle.world_save_rows.specs.Seen.{home_seen}
use Rattle.world_save_text.specs.Pieces.{items_left}
use Rattle.world_save_text.proofs.rows.write_each_home.Given as goal

abbrev pub invariant-loop-home : goal.invariant-loop-home
invariant-loop-home l = HasWritten l.initial.writer l.writer (items_left false (map row_data (map (row_of l.names) (map home_seen l.homes)))) (items_left l.later (map row_data (map (row_of l.names) (map home_seen (drop l.home-index l.homes)))))

use Rattle.std.proofs.Common.{◌≡◌, map, take}
use Rattle.world_save_terms.specs.Rows.{row_of}
use Rattle.world_save_rows.specs.Seen.{home_seen, row_seen}
use Rattle.world_save_rows.proofs.order.unsorted.Given as goal

abbrev pub invariant-loop-home : goal.invariant-loop-home
invariant-loop-home l = map row_seen l.rows.items ≡ map (row_of l.names) (map home_seen (take l.home-index l.homes))

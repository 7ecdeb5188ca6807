use Rattle.std.proofs.Common.{◌≡◌, map, take}
use Rattle.lam_value_homes.specs.Homes.{listed_home}
use Rattle.world_save_rows.specs.Seen.{home_seen}
use Rattle.world_save_rows.proofs.home_list.home_counts.Given as goal

abbrev pub invariant-loop-home : goal.invariant-loop-home
invariant-loop-home l = map home_seen l.homes.items ≡ map listed_home (take l.home-index l.listed)

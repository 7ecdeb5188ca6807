use Rattle.std.proofs.Common.{◌≡◌, ◌++◌, map, take}
use Rattle.lam_value_homes.specs.Homes.{homes_of, listed_home}
use Rattle.lam_value_homes.proofs.counters.push_row.Given as goal

abbrev pub invariant-loop-at : goal.invariant-loop-at
invariant-loop-at l = map listed_home l.homes.items ≡ map listed_home l.initial.homes.items ++ homes_of l.maker (take l.at l.row.entries)

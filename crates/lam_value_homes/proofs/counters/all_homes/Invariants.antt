use Rattle.std.proofs.Common.{◌≡◌, map, take}
use Rattle.lam_value_homes.specs.Homes.{homes_in, listed_home}
use Rattle.lam_value_homes.proofs.counters.all_homes.Given as goal

abbrev pub invariant-loop-place : goal.invariant-loop-place
invariant-loop-place l = map listed_home l.homes.items ≡ homes_in (take l.place l.rows.entries)

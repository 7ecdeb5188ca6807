use Rattle.std.proofs.Common.{◌≡◌, drop, slice_get}
use Rattle.lam_value_homes.specs.Homes.{homes_in}
use Rattle.lam_value_homes.proofs.counters.home_at.Given as goal

abbrev pub invariant-loop-place : goal.invariant-loop-place
invariant-loop-place l = slice_get (homes_in (drop l.place l.rows.entries)) l.rest ≡ slice_get (homes_in l.rows.entries) l.at

use Rattle.std.proofs.Common.{◌≡◌, ◌≤◌, ◌++◌, drop}
use Rattle.barrier_thin.specs.Addresses.{addresses_from, addresses}
use Rattle.barrier_thin.proofs.remainder.new_addresses.Given as goal

abbrev pub invariant-loop-i : goal.invariant-loop-i
invariant-loop-i l = (l.places.items ++ addresses_from l.kept (drop l.i l.stays) ≡ addresses l.stays) × (l.kept ≤ l.i)

use Rattle.std.proofs.Common.{◌≡◌, find, drop}
use Rattle.std.specs.Prelude.{nat_le}
use Rattle.world_save_rows.proofs.unnamed.find_from.Given as goal

abbrev pub invariant-loop-tag : goal.invariant-loop-tag
invariant-loop-tag l = find (nat_le l.count) l.tags ≡ find (nat_le l.count) (drop l.tag-index l.tags)

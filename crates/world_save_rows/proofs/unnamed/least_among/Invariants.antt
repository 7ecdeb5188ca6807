use Rattle.std.proofs.Common.{take}
use Rattle.world_save_rows.specs.Least.{IsLeastOf, IsAmong}
use Rattle.world_save_rows.proofs.unnamed.least_among.Given as goal

abbrev pub invariant-loop-home : goal.invariant-loop-home
invariant-loop-home l = IsLeastOf (IsAmong l.count (take l.home-index l.homes)) l.least

use Rattle.std.proofs.Common.{◌≡◌, drop}
use Rattle.monitor_core.specs.Held.{dropped}
use Rattle.monitor_core.proofs.Monitors.drop_all.Given as goal

abbrev pub invariant-loop-r : goal.invariant-loop-r
invariant-loop-r l = dropped l.self (drop l.r-index l.held) l.thread ≡ dropped l.initial.self l.held l.thread

use Rattle.std.proofs.Common.{◌-◌, length}
use Rattle.thread_host.proofs.workers.go_on.Given as goal

abbrev pub decreases-loop-thread : goal.decreases-loop-thread
decreases-loop-thread g l = l.budget - length l.shared.turns

use Rattle.std.proofs.Common.{◌≡◌, ℕ, ◌+◌, ◌<◌, get_or}
use Rattle.lam_machine_replay.proofs.folds.row_at.Given as goal

abbrev pub invariant-loop-next : goal.invariant-loop-next
invariant-loop-next l = (i : ℕ) → l.place + i < l.next → get_or l.turns (l.place + i) 0 ≡ l.thread

use Rattle.std.proofs.Common.{◌≡◌, take}
use Rattle.thread_host_run.proofs.books.take_all.Given as goal

abbrev pub invariant-loop-turn : goal.invariant-loop-turn
invariant-loop-turn l = (l.run.code ≡ l.initial.run.code) × (l.run.start ≡ l.initial.run.start) × (l.run.turns ≡ take l.turn l.turns)

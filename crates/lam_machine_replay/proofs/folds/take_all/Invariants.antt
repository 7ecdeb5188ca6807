use Rattle.std.proofs.Common.{◌-◌, length, get_or}
use Rattle.lam_machine_replay.specs.Keeping.{IsRow}
use Rattle.lam_machine_replay.proofs.TakesLemmas.{IsFront}
use Rattle.lam_machine_replay.proofs.folds.take_all.Given as goal

abbrev pub invariant-rows : goal.invariant-rows
invariant-rows g l = IsRow l.turns l.turn l.left (get_or l.turns l.turn 0) × IsFront (g.K.KeepsAll.AreAllKept l.who) l.code l.initial.world l.turns l.initial.kept l.turn l.world l.kept

abbrev pub decreases-rows : goal.decreases-rows
decreases-rows g l = length l.turns - l.turn

use Rattle.std.proofs.Common.{◌≡◌, take}
use Rattle.pair_check_agenda.specs.Agendas.{items_in}
use Rattle.pair_check_agenda.proofs.common_part.meeting.Given as goal

abbrev pub invariant-loop-at : goal.invariant-loop-at
invariant-loop-at l = take l.at (items_in l.a) ≡ take l.at (items_in l.b)

use Rattle.std.proofs.Common.{◌≡◌, ◌++◌}
use Rattle.std.specs.Prelude.{replicate}
use Rattle.lam_machine_terms.specs.Views.{turn}
use Rattle.pair_check_agenda.specs.Agendas.{items_in}
use Rattle.pair_check_agenda.proofs.notes.put_turns.Given as goal

abbrev pub invariant-loop-done : goal.invariant-loop-done
invariant-loop-done l = items_in l.entries.items ≡ items_in l.initial.entries.items ++ replicate l._done (turn l.thread)

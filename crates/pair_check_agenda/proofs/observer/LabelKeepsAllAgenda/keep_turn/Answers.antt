use Rattle.std.proofs.lemmas.Result.{on_ok_weaker}
use Rattle.pair_check_agenda.specs.Agendas.{items_in}
use Rattle.pair_check_agenda.proofs.KeptLemmas.{turn_kept}
use Rattle.pair_check_agenda.proofs.observer.LabelKeepsAllAgenda.keep_turn.Goals as goal

pub returns : goal.returns
returns c =
    on_ok_weaker c.note_event.result
    (turn_kept c.args.self.now c.args._turn c.args.event c.args.world.now (items_in c.kept.inside.entries.items) c.args.kept.now (items_in c.note_event.new.entries.items) c.kept.view_is) c.note_event.ensures

use Rattle.std.proofs.lemmas.Result.{on_ok_weaker}
use Rattle.lam_machine_replay.specs.Asking.{label_at}
use Rattle.pair_check_agenda.specs.Agendas.{items_in}
use Rattle.pair_check_agenda.proofs.KeptLemmas.{private_kept}
use Rattle.pair_check_agenda.proofs.observer.LabelKeepsAllAgenda.keep_private.Goals as goal

pub returns : goal.returns
returns c =
    on_ok_weaker c.note_private.result
    (private_kept c.args.self.now c.args.thread (label_at c.args.world.now c.args.thread) c.args.many (items_in c.kept.inside.entries.items) c.args.kept.now (items_in c.note_private.new.entries.items) c.sees_acting-is_seen.result c.sees_acting-is_seen.ensures c.kept.view_is) c.note_private.ensures

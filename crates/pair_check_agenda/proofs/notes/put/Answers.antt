use Rattle.std.proofs.Common.{◌++◌, Option, sym, ap, ◌∙◌}
use Rattle.std.specs.Option.{option_map, option_to_list}
use Rattle.pair_check_agenda.specs.declared.entry.Entry.{Entry}
use Rattle.pair_check_agenda.specs.Agendas.{item_in, items_in}
use Rattle.pair_check_agenda.proofs.MeetLemmas.{pushed}
use Rattle.pair_check_agenda.proofs.notes.put.Goals as goal

pub returns-in_ok-push-in-Some : goal.returns-in_ok-push-in-Some
returns-in_ok-push-in-Some c =
    pushed c.args.entries.now.items c.push.new.self.items c.in-Some.entry c.in_ok-push-in-Some.ensures.items
    ∙ ap (λ (x : Option Entry). items_in c.args.entries.now.items ++ option_to_list (option_map item_in x)) (sym c.in-Some.is)

use Rattle.std.proofs.Common.{string_bytes, ◌∙◌}
use Rattle.lam_machine_terms.specs.Turns.{moments}
use Rattle.lam_main_replay.specs.Asked.{lines_for}
use Rattle.lam_main_threads.proofs.TakenLemmas.{none_shown, shown_as, threads_shown}
use Rattle.lam_main_threads.proofs.texts.viewed.Goals as goal

pub taken_turns-requires-clause-nothing : goal.taken_turns-requires-clause-nothing
taken_turns-requires-clause-nothing g c = λ κs k. c.new-text.ensures.bytes ∙ none_shown c.args.viewer.now.who c.args.viewer.now.names

pub returns-in-Ok : goal.returns-in-Ok
returns-in-Ok g c =
    let ended = c.in-Ok.taken.ended in
    let lines = lines_for c.args.viewer.now.who c.args.viewer.now.names in
    let shown = lines (moments ended.parts.code ended.parts.turns.items ended.parts.start) in
    threads_shown c.args.code c.args.start c.args.bounds.turns lines ended c.with_book.result c.in-Ok.ensures.run
    (shown_as ended (string_bytes c.in-Ok.taken.kept) shown c.with_book.result c.in-Ok.ensures.kept c.with_book.ensures)

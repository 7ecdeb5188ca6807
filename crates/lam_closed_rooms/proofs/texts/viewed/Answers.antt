use Rattle.std.proofs.Common.{◌∙◌, string_bytes}
use Rattle.lam_main_replay.specs.Asked.{lines_for}
use Rattle.lam_closed_rooms.proofs.TakenLemmas.{has_book, none_shown, closed_shown}
use Rattle.lam_closed_rooms.proofs.texts.viewed.Goals as goal

pub closed_kept-requires-clause-nothing : goal.closed_kept-requires-clause-nothing
closed_kept-requires-clause-nothing c = c.new-text.ensures.bytes ∙ none_shown c.args.viewer.now.who c.args.viewer.now.names

pub with_book-requires : goal.with_book-requires
with_book-requires c =
    let closed = c.in-Ok.closed in
    has_book c.args.base.now c.args.code c.args.turns closed.end closed.parts.turns.items c.args.start (c.each_start_ends_once.ensures c.args.code c.args.base.now) c.requires.sound c.in-Ok.ensures.ended

pub returns-in-Ok : goal.returns-in-Ok
returns-in-Ok c =
    let closed = c.in-Ok.closed in
    closed_shown c.args.code c.args.start c.args.base.now c.args.turns (lines_for c.args.viewer.now.who c.args.viewer.now.names) closed.end closed.parts.turns.items c.in-Ok.ensures.ended (string_bytes closed.kept) c.in-Ok.ensures.kept c.with_book.result c.with_book.ensures

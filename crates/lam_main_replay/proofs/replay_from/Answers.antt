use Rattle.std.proofs.Common.{◌≡◌, Ok, ap, string_bytes}
use Rattle.lam_machine_effects.specs.declared.stores.Stores.{Stores}
use Rattle.lam_main_plan.specs.Replays.{read_by}
use Rattle.lam_main_replay.specs.declared.viewer.NamedViewer.{NamedViewer}
use Rattle.lam_main_replay.specs.Asked.{reader_of, lines_for}
use Rattle.lam_main_replay.proofs.RunLemmas.{reader_says, no_reader_says}
use Rattle.lam_main_replay.proofs.replay_from.Goals as goal

pub returns-in-Ok-clause-says : goal.returns-in-Ok-clause-says
returns-in-Ok-clause-says g c = λ told.
    reader_says (g.H.Shelf.files c.args.shelf.now) (string_bytes c.args.book) (reader_of c.args.reader.now) c.args.code.now c.args.start c.stores.result.now.names (ap (λ (s : Stores). s.names) c.stores.ensures) (lines_for c.in-Ok.viewer.who c.in-Ok.viewer.names) c.replay_book.result c.in-Ok.ensures.finds (c.replay_book.ensures.says told)

pub returns-in-Err-clause-says : goal.returns-in-Err-clause-says
returns-in-Err-clause-says g c = λ told.
    no_reader_says (g.H.Shelf.files c.args.shelf.now) (string_bytes c.args.book) (reader_of c.args.reader.now) c.args.code.now c.args.start c.stores.result.now.names (ap (λ (s : Stores). s.names) c.stores.ensures) (λ (viewer : NamedViewer). read_by (reader_of c.args.reader.now) c.stores.result.now.names ≡ Ok (lines_for viewer.who viewer.names)) c.in-Err.halt c.in-Err.ensures.finds

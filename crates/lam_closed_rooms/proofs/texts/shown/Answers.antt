use Rattle.std.proofs.Common.{◌≡◌, Ok, ap}
use Rattle.lam_machine_effects.specs.declared.stores.Stores.{Stores}
use Rattle.lam_main_replay.specs.Replays.{read_by}
use Rattle.lam_main_replay.specs.declared.viewer.NamedViewer.{NamedViewer}
use Rattle.lam_main_replay.specs.Asked.{reader_of, lines_for}
use Rattle.lam_closed_rooms.specs.Asked.{asked_of}
use Rattle.lam_closed_rooms.proofs.TakenLemmas.{reader_offers, no_reader_offers}
use Rattle.lam_closed_rooms.proofs.texts.shown.Goals as goal

pub returns-in-Ok-clause-offers : goal.returns-in-Ok-clause-offers
returns-in-Ok-clause-offers c =
    reader_offers (asked_of c.args.asked.now) c.args.code c.args.start c.stores.result.now.names (ap (λ (s : Stores). s.names) c.stores.ensures) (lines_for c.in-Ok.viewer.who c.in-Ok.viewer.names) c.shown_to.result c.in-Ok.ensures.finds c.shown_to.ensures.offers

pub returns-in-Err-clause-offers : goal.returns-in-Err-clause-offers
returns-in-Err-clause-offers c =
    no_reader_offers (asked_of c.args.asked.now) c.args.code c.args.start c.stores.result.now.names (ap (λ (s : Stores). s.names) c.stores.ensures) (λ (viewer : NamedViewer). read_by (reader_of c.args.asked.now.reader) c.stores.result.now.names ≡ Ok (lines_for viewer.who viewer.names)) c.in-Err.halt c.in-Err.ensures.finds

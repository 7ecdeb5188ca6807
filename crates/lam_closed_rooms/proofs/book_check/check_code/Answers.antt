use Rattle.std.proofs.Common.{◌≡◌, Ok, string_bytes}
use Rattle.lam_machine_terms.specs.Worlds.{World}
use Rattle.world_doc_terms.specs.Start.{start_of}
use Rattle.lam_main_replay.specs.Reading.{HasFile, world_limit}
use Rattle.lam_main_replay.proofs.ReadLemmas.{stays_on}
use Rattle.lam_main_replay.proofs.ReportLemmas.{failed_later}
use Rattle.lam_main_replay.specs.Asked.{files_of}
use Rattle.lam_closed_rooms.proofs.CheckLemmas.{start_says, no_start_says}
use Rattle.lam_closed_rooms.proofs.book_check.check_code.Goals as goal

pub returns-in-Ok-clause-says : goal.returns-in-Ok-clause-says
returns-in-Ok-clause-says g c = λ told.
    start_says (g.H.Shelf.files c.args.shelf.now) (files_of c.args.files) (string_bytes c.args.base) c.args.code.now (g.H.Shelf.files c.read_start.new.shelf) c.in-Ok.start c.check_from.result (c.in-Ok.ensures.stay told) (c.in-Ok.ensures.finds told) (c.check_from.ensures.says (c.in-Ok.ensures.tells_on told))

pub returns-in-Ok-clause-stay : goal.returns-in-Ok-clause-stay
returns-in-Ok-clause-stay g c = λ told.
    stays_on (g.H.Shelf.files c.args.shelf.now) (g.H.Shelf.files c.read_start.new.shelf) (g.H.Shelf.files c.check_from.new.shelf) (c.in-Ok.ensures.stay told) (c.check_from.ensures.stay (c.in-Ok.ensures.tells_on told))

pub returns-in-Ok-clause-failed : goal.returns-in-Ok-clause-failed
returns-in-Ok-clause-failed g c = failed_later c.check_from.result (g.H.Shelf.faults c.args.shelf.now) (g.H.Shelf.faults c.read_start.new.shelf) (g.H.Shelf.faults c.check_from.new.shelf) c.in-Ok.ensures.later c.check_from.ensures.failed

pub returns-in-Err-clause-says : goal.returns-in-Err-clause-says
returns-in-Err-clause-says g c = λ told.
    no_start_says (g.H.Shelf.files c.args.shelf.now) (files_of c.args.files) (string_bytes c.args.base) c.args.code.now (λ (b : World). HasFile (g.H.Shelf.files c.args.shelf.now (string_bytes c.args.files.world)) world_limit (λ bytes. start_of bytes c.args.code.now ≡ Ok b)) c.in-Err.halt (c.in-Err.ensures.finds told)

use Rattle.std.proofs.Common.{◌≡◌, Ok, string_bytes}
use Rattle.lam_machine_terms.specs.Worlds.{World}
use Rattle.world_doc_terms.specs.Start.{start_of}
use Rattle.lam_main_replay.specs.Reading.{HasFile, world_limit}
use Rattle.lam_main_replay.proofs.ReportLemmas.{kept_of_all, kept_later, failed_later}
use Rattle.lam_closed_rooms.specs.Asked.{files_of, asked_of}
use Rattle.lam_closed_rooms.proofs.ReportLemmas.{spared_later, start_reported, no_start_reported}
use Rattle.lam_closed_rooms.proofs.run_code.Goals as goal

pub returns-in-Ok-clause-gives : goal.returns-in-Ok-clause-gives
returns-in-Ok-clause-gives g c = λ told.
    start_reported (g.H.Shelf.files c.args.shelf.now) (files_of c.args.files) (asked_of c.args.asked.now) c.args.code (g.H.Shelf.files c.run_from.new.shelf) (g.H.Shelf.files c.read_start.new.shelf) c.in-Ok.start c.run_from.result (c.in-Ok.ensures.stay told) (c.in-Ok.ensures.finds told) (c.run_from.ensures.gives (c.in-Ok.ensures.tells_on told))

pub returns-in-Ok-clause-kept : goal.returns-in-Ok-clause-kept
returns-in-Ok-clause-kept g c = λ told.
    kept_later (g.H.Shelf.files c.args.shelf.now) (g.H.Shelf.files c.read_start.new.shelf) (g.H.Shelf.files c.run_from.new.shelf) (string_bytes c.args.files.book_out) (c.in-Ok.ensures.stay told) (c.run_from.ensures.kept (c.in-Ok.ensures.tells_on told))

pub returns-in-Ok-clause-failed : goal.returns-in-Ok-clause-failed
returns-in-Ok-clause-failed g c = failed_later c.run_from.result (g.H.Shelf.faults c.args.shelf.now) (g.H.Shelf.faults c.read_start.new.shelf) (g.H.Shelf.faults c.run_from.new.shelf) c.in-Ok.ensures.later c.run_from.ensures.failed

pub returns-in-Ok-clause-spared : goal.returns-in-Ok-clause-spared
returns-in-Ok-clause-spared g c = λ told.
    spared_later c.run_from.result (g.H.Shelf.files c.args.shelf.now) (g.H.Shelf.files c.read_start.new.shelf) (g.H.Shelf.files c.run_from.new.shelf) (g.H.Shelf.refusals c.args.shelf.now) (g.H.Shelf.refusals c.read_start.new.shelf) (g.H.Shelf.refusals c.run_from.new.shelf) (c.in-Ok.ensures.stay told) c.in-Ok.ensures.refused (c.run_from.ensures.spared (c.in-Ok.ensures.tells_on told))

pub returns-in-Err-clause-gives : goal.returns-in-Err-clause-gives
returns-in-Err-clause-gives g c = λ told.
    no_start_reported (g.H.Shelf.files c.args.shelf.now) (files_of c.args.files) (asked_of c.args.asked.now) c.args.code (g.H.Shelf.files c.read_start.new.shelf) (λ (b : World). HasFile (g.H.Shelf.files c.args.shelf.now (string_bytes c.args.files.world)) world_limit (λ bytes. start_of bytes c.args.code ≡ Ok b)) c.in-Err.halt (c.in-Err.ensures.stay told) (c.in-Err.ensures.finds told)

pub returns-in-Err-clause-kept : goal.returns-in-Err-clause-kept
returns-in-Err-clause-kept g c = λ told.
    kept_of_all (g.H.Shelf.files c.args.shelf.now) (g.H.Shelf.files c.read_start.new.shelf) (string_bytes c.args.files.book_out) (c.in-Err.ensures.stay told)

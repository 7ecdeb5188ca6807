use Rattle.std.proofs.Common.{string_bytes}
use Rattle.lam_main_replay.specs.Reading.{HasFile, IsRunCode, program_limit}
use Rattle.lam_main_replay.proofs.ReportLemmas.{kept_of_all, kept_later, failed_later}
use Rattle.lam_closed_rooms.specs.Asked.{files_of, asked_of}
use Rattle.lam_closed_rooms.proofs.ReportLemmas.{spared_later, program_reported, no_program_reported}
use Rattle.lam_closed_rooms.proofs.run.Goals as goal

pub returns-in-Ok-clause-gives : goal.returns-in-Ok-clause-gives
returns-in-Ok-clause-gives g c = λ told.
    program_reported (g.H.Shelf.files c.args.shelf.now) (string_bytes c.args.program) (files_of c.args.files) (asked_of c.args.asked.now) (g.H.Shelf.files c.run_code.new.shelf) (g.H.Shelf.files c.read_code.new.shelf) c.in-Ok.code c.run_code.result (c.in-Ok.ensures.stay told) (c.in-Ok.ensures.finds told) (c.run_code.ensures.gives (c.in-Ok.ensures.tells_on told))

pub returns-in-Ok-clause-kept : goal.returns-in-Ok-clause-kept
returns-in-Ok-clause-kept g c = λ told.
    kept_later (g.H.Shelf.files c.args.shelf.now) (g.H.Shelf.files c.read_code.new.shelf) (g.H.Shelf.files c.run_code.new.shelf) (string_bytes c.args.files.book_out) (c.in-Ok.ensures.stay told) (c.run_code.ensures.kept (c.in-Ok.ensures.tells_on told))

pub returns-in-Ok-clause-failed : goal.returns-in-Ok-clause-failed
returns-in-Ok-clause-failed g c = failed_later c.run_code.result (g.H.Shelf.faults c.args.shelf.now) (g.H.Shelf.faults c.read_code.new.shelf) (g.H.Shelf.faults c.run_code.new.shelf) c.in-Ok.ensures.later c.run_code.ensures.failed

pub returns-in-Ok-clause-spared : goal.returns-in-Ok-clause-spared
returns-in-Ok-clause-spared g c = λ told.
    spared_later c.run_code.result (g.H.Shelf.files c.args.shelf.now) (g.H.Shelf.files c.read_code.new.shelf) (g.H.Shelf.files c.run_code.new.shelf) (g.H.Shelf.refusals c.args.shelf.now) (g.H.Shelf.refusals c.read_code.new.shelf) (g.H.Shelf.refusals c.run_code.new.shelf) (c.in-Ok.ensures.stay told) c.in-Ok.ensures.refused (c.run_code.ensures.spared (c.in-Ok.ensures.tells_on told))

pub returns-in-Err-clause-gives : goal.returns-in-Err-clause-gives
returns-in-Err-clause-gives g c = λ told.
    no_program_reported (g.H.Shelf.files c.args.shelf.now) (string_bytes c.args.program) (files_of c.args.files) (asked_of c.args.asked.now) (g.H.Shelf.files c.read_code.new.shelf) (λ tree. HasFile (g.H.Shelf.files c.args.shelf.now (string_bytes c.args.program)) program_limit (λ bytes. IsRunCode bytes tree)) c.in-Err.halt (c.in-Err.ensures.stay told) (c.in-Err.ensures.finds told)

pub returns-in-Err-clause-kept : goal.returns-in-Err-clause-kept
returns-in-Err-clause-kept g c = λ told.
    kept_of_all (g.H.Shelf.files c.args.shelf.now) (g.H.Shelf.files c.read_code.new.shelf) (string_bytes c.args.files.book_out) (c.in-Err.ensures.stay told)

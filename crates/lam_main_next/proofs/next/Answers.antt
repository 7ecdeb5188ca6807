use Rattle.std.proofs.Common.{string_bytes}
use Rattle.lam_main_replay.specs.Reading.{HasFile, IsRunCode, program_limit}
use Rattle.lam_main_replay.specs.Asked.{files_of}
use Rattle.lam_main_replay.proofs.ReportLemmas.{kept_of_all, kept_later, spared_later, failed_later}
use Rattle.lam_main_next.proofs.EndingLemmas.{program_reported, no_program_reported}
use Rattle.lam_main_next.proofs.next.Goals as goal

pub returns-in-Ok-clause-gives : goal.returns-in-Ok-clause-gives
returns-in-Ok-clause-gives g c = λ told.
    program_reported (g.H.Shelf.files c.args.shelf.now) (string_bytes c.args.program) (files_of c.args.files) (string_bytes c.args.next_world) (g.H.Shelf.files c.next_code.new.shelf) (g.H.Shelf.files c.read_code.new.shelf) c.in-Ok.code c.next_code.result (c.in-Ok.ensures.stay told) (c.in-Ok.ensures.finds told) (c.next_code.ensures.gives (c.in-Ok.ensures.tells_on told))

pub returns-in-Ok-clause-kept : goal.returns-in-Ok-clause-kept
returns-in-Ok-clause-kept g c = λ told.
    kept_later (g.H.Shelf.files c.args.shelf.now) (g.H.Shelf.files c.read_code.new.shelf) (g.H.Shelf.files c.next_code.new.shelf) (string_bytes c.args.next_world) (c.in-Ok.ensures.stay told) (c.next_code.ensures.kept (c.in-Ok.ensures.tells_on told))

pub returns-in-Ok-clause-spared : goal.returns-in-Ok-clause-spared
returns-in-Ok-clause-spared g c = λ told.
    spared_later c.next_code.result (g.H.Shelf.files c.args.shelf.now) (g.H.Shelf.files c.read_code.new.shelf) (g.H.Shelf.files c.next_code.new.shelf) (g.H.Shelf.refusals c.args.shelf.now) (g.H.Shelf.refusals c.read_code.new.shelf) (g.H.Shelf.refusals c.next_code.new.shelf) (c.in-Ok.ensures.stay told) c.in-Ok.ensures.refused (c.next_code.ensures.spared (c.in-Ok.ensures.tells_on told))

pub returns-in-Ok-clause-failed : goal.returns-in-Ok-clause-failed
returns-in-Ok-clause-failed g c = failed_later c.next_code.result (g.H.Shelf.faults c.args.shelf.now) (g.H.Shelf.faults c.read_code.new.shelf) (g.H.Shelf.faults c.next_code.new.shelf) c.in-Ok.ensures.later c.next_code.ensures.failed

pub returns-in-Err-clause-gives : goal.returns-in-Err-clause-gives
returns-in-Err-clause-gives g c = λ told.
    no_program_reported (g.H.Shelf.files c.args.shelf.now) (string_bytes c.args.program) (files_of c.args.files) (string_bytes c.args.next_world) (g.H.Shelf.files c.read_code.new.shelf) (λ tree. HasFile (g.H.Shelf.files c.args.shelf.now (string_bytes c.args.program)) program_limit (λ bytes. IsRunCode bytes tree)) c.in-Err.halt (c.in-Err.ensures.stay told) (c.in-Err.ensures.finds told)

pub returns-in-Err-clause-kept : goal.returns-in-Err-clause-kept
returns-in-Err-clause-kept g c = λ told.
    kept_of_all (g.H.Shelf.files c.args.shelf.now) (g.H.Shelf.files c.read_code.new.shelf) (string_bytes c.args.next_world) (c.in-Err.ensures.stay told)

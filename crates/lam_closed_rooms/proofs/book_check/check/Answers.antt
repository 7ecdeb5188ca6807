use Rattle.std.proofs.Common.{string_bytes}
use Rattle.lam_main_replay.specs.Reading.{HasFile, IsRunCode, program_limit}
use Rattle.lam_main_replay.proofs.ReadLemmas.{stays_on}
use Rattle.lam_main_replay.proofs.ReportLemmas.{failed_later}
use Rattle.lam_main_replay.specs.Asked.{files_of}
use Rattle.lam_closed_rooms.proofs.CheckLemmas.{program_gives, no_program_gives}
use Rattle.lam_closed_rooms.proofs.book_check.check.Goals as goal

pub returns-in-Ok-clause-stay : goal.returns-in-Ok-clause-stay
returns-in-Ok-clause-stay g c = λ told.
    stays_on (g.H.Shelf.files c.args.shelf.now) (g.H.Shelf.files c.read_code.new.shelf) (g.H.Shelf.files c.check_code-answer.new.shelf) (c.in-Ok.ensures.stay told) (c.check_code-answer.ensures.stay (c.in-Ok.ensures.tells_on told))

pub returns-in-Ok-clause-gives : goal.returns-in-Ok-clause-gives
returns-in-Ok-clause-gives g c = λ told.
    program_gives (g.H.Shelf.files c.args.shelf.now) (string_bytes c.args.program) (files_of c.args.files) (string_bytes c.args.base) (g.H.Shelf.files c.check_code-answer.new.shelf) (g.H.Shelf.files c.read_code.new.shelf) c.in-Ok.code c.check_code-answer.result (c.in-Ok.ensures.stay told) (returns-in-Ok-clause-stay g c told) (c.in-Ok.ensures.finds told) (c.check_code-answer.ensures.says (c.in-Ok.ensures.tells_on told))

pub returns-in-Ok-clause-failed : goal.returns-in-Ok-clause-failed
returns-in-Ok-clause-failed g c = failed_later c.check_code-answer.result (g.H.Shelf.faults c.args.shelf.now) (g.H.Shelf.faults c.read_code.new.shelf) (g.H.Shelf.faults c.check_code-answer.new.shelf) c.in-Ok.ensures.later c.check_code-answer.ensures.failed

pub returns-in-Err-clause-gives : goal.returns-in-Err-clause-gives
returns-in-Err-clause-gives g c = λ told.
    no_program_gives (g.H.Shelf.files c.args.shelf.now) (string_bytes c.args.program) (files_of c.args.files) (string_bytes c.args.base) (g.H.Shelf.files c.read_code.new.shelf) (λ tree. HasFile (g.H.Shelf.files c.args.shelf.now (string_bytes c.args.program)) program_limit (λ bytes. IsRunCode bytes tree)) c.in-Err.halt (c.in-Err.ensures.stay told) (c.in-Err.ensures.finds told)

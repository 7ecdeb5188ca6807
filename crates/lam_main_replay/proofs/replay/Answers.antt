use Rattle.std.proofs.Common.{string_bytes}
use Rattle.lam_main_plan.proofs.ReadLemmas.{stays_on}
use Rattle.lam_main_replay.specs.Asked.{files_of, reader_of}
use Rattle.lam_main_replay.proofs.ReportLemmas.{failed_later}
use Rattle.lam_main_replay.proofs.RunLemmas.{program_gives, no_program_gives}
use Rattle.lam_main_replay.proofs.replay.Goals as goal

pub returns-in-Ok-clause-stay : goal.returns-in-Ok-clause-stay
returns-in-Ok-clause-stay g c = λ told.
    stays_on (g.H.Shelf.files c.args.shelf.now) (g.H.Shelf.files c.read_code.new.shelf) (g.H.Shelf.files c.replay_code.new.shelf) (c.in-Ok.ensures.stay told) (c.replay_code.ensures.stay (c.in-Ok.ensures.tells_on told))

pub returns-in-Ok-clause-gives : goal.returns-in-Ok-clause-gives
returns-in-Ok-clause-gives g c = λ told.
    program_gives (g.H.Shelf.files c.args.shelf.now) (string_bytes c.args.program) (files_of c.args.files) (reader_of c.args.reader.now) (g.H.Shelf.files c.replay_code.new.shelf) (g.H.Shelf.files c.read_code.new.shelf) c.in-Ok.code c.replay_code.result (c.in-Ok.ensures.stay told) (returns-in-Ok-clause-stay g c told) (c.in-Ok.ensures.finds told) (c.replay_code.ensures.says (c.in-Ok.ensures.tells_on told))

pub returns-in-Ok-clause-failed : goal.returns-in-Ok-clause-failed
returns-in-Ok-clause-failed g c = failed_later c.replay_code.result (g.H.Shelf.faults c.args.shelf.now) (g.H.Shelf.faults c.read_code.new.shelf) (g.H.Shelf.faults c.replay_code.new.shelf) c.in-Ok.ensures.later c.replay_code.ensures.failed

pub returns-in-Err-clause-gives : goal.returns-in-Err-clause-gives
returns-in-Err-clause-gives g c = λ told.
    no_program_gives (g.H.Shelf.files c.args.shelf.now) (string_bytes c.args.program) (files_of c.args.files) (reader_of c.args.reader.now) (g.H.Shelf.files c.read_code.new.shelf) c.in-Err.halt (c.in-Err.ensures.stay told) (c.in-Err.ensures.finds told)

use Rattle.std.proofs.Common.{string_bytes}
use Rattle.lam_main_replay.specs.Reading.{HasFile, program_limit}
use Rattle.lam_main_replay.proofs.ReadLemmas.{stays_on}
use Rattle.lam_main_replay.proofs.ReportLemmas.{failed_later}
use Rattle.lam_main_replay.specs.Asked.{files_of}
use Rattle.lam_main_walk.specs.Sources.{IsSourceOf}
use Rattle.lam_main_walk.proofs.SourceLemmas.{means_everywhere, source_gives, no_source_gives}
use Rattle.lam_main_walk.proofs.walk.Goals as goal

pub walk_source-answer-requires-clause-means : goal.walk_source-answer-requires-clause-means
walk_source-answer-requires-clause-means g c = means_everywhere c.sources_run_as_meant.ensures c.in-Ok.source c.in-Ok.ensures.found

pub returns-in-Ok-clause-stay : goal.returns-in-Ok-clause-stay
returns-in-Ok-clause-stay g c = λ told.
    stays_on (g.H.Shelf.files c.args.shelf.now) (g.H.Shelf.files c.read_source.new.shelf) (g.H.Shelf.files c.walk_source-answer.new.shelf) (c.in-Ok.ensures.stay told) (c.walk_source-answer.ensures.stay (c.in-Ok.ensures.tells_on told))

pub returns-in-Ok-clause-gives : goal.returns-in-Ok-clause-gives
returns-in-Ok-clause-gives g c = λ told.
    source_gives (g.H.Shelf.files c.args.shelf.now) (string_bytes c.args.program) (files_of c.args.files) (g.H.Shelf.files c.walk_source-answer.new.shelf) (g.H.Shelf.files c.read_source.new.shelf) c.in-Ok.source c.walk_source-answer.result (c.in-Ok.ensures.stay told) (returns-in-Ok-clause-stay g c told) (c.in-Ok.ensures.finds told) (c.walk_source-answer.ensures.says (c.in-Ok.ensures.tells_on told))

pub returns-in-Ok-clause-failed : goal.returns-in-Ok-clause-failed
returns-in-Ok-clause-failed g c = failed_later c.walk_source-answer.result (g.H.Shelf.faults c.args.shelf.now) (g.H.Shelf.faults c.read_source.new.shelf) (g.H.Shelf.faults c.walk_source-answer.new.shelf) c.in-Ok.ensures.later c.walk_source-answer.ensures.failed

pub returns-in-Err-clause-gives : goal.returns-in-Err-clause-gives
returns-in-Err-clause-gives g c = λ told.
    no_source_gives (g.H.Shelf.files c.args.shelf.now) (string_bytes c.args.program) (files_of c.args.files) (g.H.Shelf.files c.read_source.new.shelf) (λ s. HasFile (g.H.Shelf.files c.args.shelf.now (string_bytes c.args.program)) program_limit (λ bytes. IsSourceOf bytes s)) c.in-Err.halt (c.in-Err.ensures.stay told) (c.in-Err.ensures.finds told)

use Rattle.std.proofs.Common.{string_bytes}
use Rattle.lam_main_replay.proofs.ReadLemmas.{stays_on}
use Rattle.lam_main_replay.specs.Asked.{files_of}
use Rattle.lam_main_replay.proofs.ReportLemmas.{failed_later}
use Rattle.lam_main_pair.proofs.PairLemmas.{first_says, no_first_says}
use Rattle.lam_main_pair.proofs.pair_first.Goals as goal

pub returns-in-Ok-clause-says : goal.returns-in-Ok-clause-says
returns-in-Ok-clause-says g c = λ told.
    first_says (g.H.Shelf.files c.args.shelf.now) (string_bytes c.args.book) (files_of c.args.second) c.args.code.now c.args.observer.now c.args.start (g.H.Shelf.files c.half_of.new.shelf) c.in-Ok.first c.pair_second.result (c.in-Ok.ensures.stay told) (c.in-Ok.ensures.finds told) (c.pair_second.ensures.says (c.in-Ok.ensures.tells_on told))

pub returns-in-Ok-clause-stay : goal.returns-in-Ok-clause-stay
returns-in-Ok-clause-stay g c = λ told.
    stays_on (g.H.Shelf.files c.args.shelf.now) (g.H.Shelf.files c.half_of.new.shelf) (g.H.Shelf.files c.pair_second.new.shelf) (c.in-Ok.ensures.stay told) (c.pair_second.ensures.stay (c.in-Ok.ensures.tells_on told))

pub returns-in-Ok-clause-failed : goal.returns-in-Ok-clause-failed
returns-in-Ok-clause-failed g c = failed_later c.pair_second.result (g.H.Shelf.faults c.args.shelf.now) (g.H.Shelf.faults c.half_of.new.shelf) (g.H.Shelf.faults c.pair_second.new.shelf) c.in-Ok.ensures.later c.pair_second.ensures.failed

pub returns-in-Err-clause-says : goal.returns-in-Err-clause-says
returns-in-Err-clause-says g c = λ told.
    no_first_says (g.H.Shelf.files c.args.shelf.now) (string_bytes c.args.book) (files_of c.args.second) c.args.code.now c.args.observer.now c.args.start c.in-Err.halt (c.in-Err.ensures.finds told)

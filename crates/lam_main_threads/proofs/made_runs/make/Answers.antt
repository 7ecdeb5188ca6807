use Rattle.std.proofs.Common.{string_bytes}
use Rattle.lam_main_replay.specs.Threads.{Makes}
use Rattle.lam_main_replay.proofs.ReportLemmas.{kept_of_all, all_stay}
use Rattle.lam_main_threads.proofs.ReportLemmas.{offer_reported, no_offer_reported}
use Rattle.lam_main_threads.proofs.made_runs.make.Goals as goal

pub returns-in-Ok-clause-gives : goal.returns-in-Ok-clause-gives
returns-in-Ok-clause-gives g c = λ told.
    offer_reported (Makes c.args.seed c.args.threads) (string_bytes c.args.book_out) (g.H.Shelf.files c.args.shelf.now) (g.H.Shelf.files c.written.new.shelf) c.in-Ok.taken c.written.result c.in-Ok.ensures.offers (c.written.ensures.gives told)

pub returns-in-Err-clause-gives : goal.returns-in-Err-clause-gives
returns-in-Err-clause-gives g c = λ told.
    no_offer_reported (Makes c.args.seed c.args.threads) (string_bytes c.args.book_out) (g.H.Shelf.files c.args.shelf.now) (g.H.Shelf.files c.args.shelf.now) c.in-Err.halt (all_stay (g.H.Shelf.files c.args.shelf.now)) c.in-Err.ensures.offers

pub returns-in-Err-clause-kept : goal.returns-in-Err-clause-kept
returns-in-Err-clause-kept g c = λ told.
    kept_of_all (g.H.Shelf.files c.args.shelf.now) (g.H.Shelf.files c.args.shelf.now) (string_bytes c.args.book_out) (all_stay (g.H.Shelf.files c.args.shelf.now))

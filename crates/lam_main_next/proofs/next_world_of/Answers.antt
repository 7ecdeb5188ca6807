use Rattle.std.proofs.Common.{◌≡◌, Ok, string_bytes}
use Rattle.lam_machine_terms.specs.Worlds.{World}
use Rattle.world_doc_terms.specs.Start.{start_of}
use Rattle.lam_main_replay.specs.Books.{WithRun}
use Rattle.lam_main_replay.specs.Saves.{IsOfEnd}
use Rattle.lam_main_replay.proofs.ReportLemmas.{kept_of_all, all_stay}
use Rattle.lam_main_next.proofs.EndingLemmas.{world_reported, no_world_reported}
use Rattle.lam_main_next.proofs.next_world_of.Goals as goal

pub returns-in-Ok-clause-gives : goal.returns-in-Ok-clause-gives
returns-in-Ok-clause-gives g c = λ told.
    let files = g.H.Shelf.files c.args.shelf.now in
    world_reported (λ start. WithRun files (string_bytes c.args.book) c.args.code start (IsOfEnd (string_bytes c.args.next_world) c.args.code c.args.old.now start)) (start_of c.args.old.now c.args.code) files (g.H.Shelf.files c.next_from.new.shelf) c.in-Ok.start c.next_from.result c.in-Ok.ensures.finds (c.next_from.ensures.gives told)

pub returns-in-Err-clause-gives : goal.returns-in-Err-clause-gives
returns-in-Err-clause-gives g c = λ told.
    let files = g.H.Shelf.files c.args.shelf.now in
    no_world_reported (λ start. WithRun files (string_bytes c.args.book) c.args.code start (IsOfEnd (string_bytes c.args.next_world) c.args.code c.args.old.now start)) (start_of c.args.old.now c.args.code) files files (λ (start : World). start_of c.args.old.now c.args.code ≡ Ok start) c.in-Err.halt (all_stay files) c.in-Err.ensures.finds

pub returns-in-Err-clause-kept : goal.returns-in-Err-clause-kept
returns-in-Err-clause-kept g c = λ told.
    kept_of_all (g.H.Shelf.files c.args.shelf.now) (g.H.Shelf.files c.args.shelf.now) (string_bytes c.args.next_world) (all_stay (g.H.Shelf.files c.args.shelf.now))

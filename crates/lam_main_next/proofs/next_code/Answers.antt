use Rattle.std.proofs.Common.{subst, string_bytes}
use Rattle.world_doc_terms.specs.Start.{start_of}
use Rattle.lam_main_words.specs.Words.{Text}
use Rattle.lam_main_replay.specs.Replays.{ByWorld}
use Rattle.lam_main_replay.specs.Books.{WithRun}
use Rattle.lam_main_replay.specs.Saves.{IsOfEnd}
use Rattle.lam_main_replay.specs.Halts.{Reports}
use Rattle.lam_main_replay.proofs.ReportLemmas.{kept_of_all, kept_later, spared_later, failed_later}
use Rattle.lam_main_replay.specs.Asked.{files_of}
use Rattle.lam_main_next.proofs.EndingLemmas.{old_reported, no_old_reported}
use Rattle.lam_main_next.proofs.next_code.Goals as goal

pub returns-in-Ok-clause-gives : goal.returns-in-Ok-clause-gives
returns-in-Ok-clause-gives g c = λ told.
    let between = g.H.Shelf.files c.read_file.new.shelf in
    let new = g.H.Shelf.files c.next_world_of.new.shelf in
    old_reported (g.H.Shelf.files c.args.shelf.now) (files_of c.args.files) (string_bytes c.args.next_world) c.args.code new between c.in-Ok.old c.next_world_of.result (c.in-Ok.ensures.stay told) (c.in-Ok.ensures.read told)
    (subst (λ (bytes : Text). Reports c.next_world_of.result (ByWorld (λ start. WithRun between (string_bytes c.args.files.book) c.args.code start (IsOfEnd (string_bytes c.args.next_world) c.args.code bytes start)) (start_of bytes c.args.code)) between new) c.as_slice.ensures.value (c.next_world_of.ensures.gives (c.in-Ok.ensures.tells_on told)))

pub returns-in-Ok-clause-kept : goal.returns-in-Ok-clause-kept
returns-in-Ok-clause-kept g c = λ told.
    kept_later (g.H.Shelf.files c.args.shelf.now) (g.H.Shelf.files c.read_file.new.shelf) (g.H.Shelf.files c.next_world_of.new.shelf) (string_bytes c.args.next_world) (c.in-Ok.ensures.stay told) (c.next_world_of.ensures.kept (c.in-Ok.ensures.tells_on told))

pub returns-in-Ok-clause-spared : goal.returns-in-Ok-clause-spared
returns-in-Ok-clause-spared g c = λ told.
    spared_later c.next_world_of.result (g.H.Shelf.files c.args.shelf.now) (g.H.Shelf.files c.read_file.new.shelf) (g.H.Shelf.files c.next_world_of.new.shelf) (g.H.Shelf.refusals c.args.shelf.now) (g.H.Shelf.refusals c.read_file.new.shelf) (g.H.Shelf.refusals c.next_world_of.new.shelf) (c.in-Ok.ensures.stay told) c.in-Ok.ensures.refused (c.next_world_of.ensures.spared (c.in-Ok.ensures.tells_on told))

pub returns-in-Ok-clause-failed : goal.returns-in-Ok-clause-failed
returns-in-Ok-clause-failed g c = failed_later c.next_world_of.result (g.H.Shelf.faults c.args.shelf.now) (g.H.Shelf.faults c.read_file.new.shelf) (g.H.Shelf.faults c.next_world_of.new.shelf) c.in-Ok.ensures.later c.next_world_of.ensures.failed

pub returns-in-Err-clause-gives : goal.returns-in-Err-clause-gives
returns-in-Err-clause-gives g c = λ told.
    no_old_reported (g.H.Shelf.files c.args.shelf.now) (files_of c.args.files) (string_bytes c.args.next_world) c.args.code (g.H.Shelf.files c.read_file.new.shelf) c.in-Err.halt (c.in-Err.ensures.stay told) (c.in-Err.ensures.read told)

pub returns-in-Err-clause-kept : goal.returns-in-Err-clause-kept
returns-in-Err-clause-kept g c = λ told.
    kept_of_all (g.H.Shelf.files c.args.shelf.now) (g.H.Shelf.files c.read_file.new.shelf) (string_bytes c.args.next_world) (c.in-Err.ensures.stay told)

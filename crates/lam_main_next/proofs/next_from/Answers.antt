use Rattle.std.proofs.Common.{◌≡◌, ℕ, List, Ok, subst, string_bytes}
use Rattle.lam_machine_runs.specs.Stops.{stopped_at}
use Rattle.turn_book.specs.Reading.{turns_of}
use Rattle.lam_main_replay.specs.Reading.{HasFile, book_limit}
use Rattle.lam_main_replay.specs.Books.{WhereReady}
use Rattle.lam_main_replay.specs.Saves.{IsOfEnd}
use Rattle.lam_main_replay.specs.Halts.{Reports}
use Rattle.lam_main_replay.proofs.ReportLemmas.{kept_of_all, kept_later, spared_later, failed_later}
use Rattle.lam_main_next.proofs.EndingLemmas.{turns_reported, no_turns_reported}
use Rattle.lam_main_next.proofs.next_from.Goals as goal

pub returns-in-Ok-clause-gives : goal.returns-in-Ok-clause-gives
returns-in-Ok-clause-gives g c = λ told.
    let between = g.H.Shelf.files c.read_turns.new.shelf in
    let new = g.H.Shelf.files c.next_turns.new.shelf in
    turns_reported (g.H.Shelf.files c.args.shelf.now) (string_bytes c.args.book) (string_bytes c.args.next_world) c.args.old.now c.args.code c.args.start new between c.in-Ok.turns c.next_turns.result (c.in-Ok.ensures.stay told) (c.in-Ok.ensures.finds told)
    (subst (λ (ts : List ℕ). Reports c.next_turns.result (WhereReady (IsOfEnd (string_bytes c.args.next_world) c.args.code c.args.old.now c.args.start ts) (stopped_at c.args.code ts c.args.start)) between new) c.as_slice.ensures (c.next_turns.ensures.gives (c.in-Ok.ensures.tells_on told)))

pub returns-in-Ok-clause-kept : goal.returns-in-Ok-clause-kept
returns-in-Ok-clause-kept g c = λ told.
    kept_later (g.H.Shelf.files c.args.shelf.now) (g.H.Shelf.files c.read_turns.new.shelf) (g.H.Shelf.files c.next_turns.new.shelf) (string_bytes c.args.next_world) (c.in-Ok.ensures.stay told) (c.next_turns.ensures.kept (c.in-Ok.ensures.tells_on told))

pub returns-in-Ok-clause-spared : goal.returns-in-Ok-clause-spared
returns-in-Ok-clause-spared g c = λ told.
    spared_later c.next_turns.result (g.H.Shelf.files c.args.shelf.now) (g.H.Shelf.files c.read_turns.new.shelf) (g.H.Shelf.files c.next_turns.new.shelf) (g.H.Shelf.refusals c.args.shelf.now) (g.H.Shelf.refusals c.read_turns.new.shelf) (g.H.Shelf.refusals c.next_turns.new.shelf) (c.in-Ok.ensures.stay told) c.in-Ok.ensures.refused (c.next_turns.ensures.spared (c.in-Ok.ensures.tells_on told))

pub returns-in-Ok-clause-failed : goal.returns-in-Ok-clause-failed
returns-in-Ok-clause-failed g c = failed_later c.next_turns.result (g.H.Shelf.faults c.args.shelf.now) (g.H.Shelf.faults c.read_turns.new.shelf) (g.H.Shelf.faults c.next_turns.new.shelf) c.in-Ok.ensures.later c.next_turns.ensures.failed

pub returns-in-Err-clause-gives : goal.returns-in-Err-clause-gives
returns-in-Err-clause-gives g c = λ told.
    no_turns_reported (g.H.Shelf.files c.args.shelf.now) (string_bytes c.args.book) (string_bytes c.args.next_world) c.args.old.now c.args.code c.args.start (g.H.Shelf.files c.read_turns.new.shelf) (λ (turns : List ℕ). HasFile (g.H.Shelf.files c.args.shelf.now (string_bytes c.args.book)) book_limit (λ bytes. turns_of bytes ≡ Ok turns)) c.in-Err.halt (c.in-Err.ensures.stay told) (c.in-Err.ensures.finds told)

pub returns-in-Err-clause-kept : goal.returns-in-Err-clause-kept
returns-in-Err-clause-kept g c = λ told.
    kept_of_all (g.H.Shelf.files c.args.shelf.now) (g.H.Shelf.files c.read_turns.new.shelf) (string_bytes c.args.next_world) (c.in-Err.ensures.stay told)

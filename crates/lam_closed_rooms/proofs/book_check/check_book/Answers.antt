use Rattle.std.proofs.Common.{◌≡◌, ℕ, List, Ok, subst, string_bytes}
use Rattle.lam_machine_runs.specs.Stops.{stopped_at}
use Rattle.turn_book.specs.Reading.{turns_of}
use Rattle.lam_main_replay.specs.Reading.{HasFile, book_limit}
use Rattle.lam_main_replay.specs.Books.{WhereReady}
use Rattle.lam_main_replay.specs.Halts.{Says}
use Rattle.lam_closed_plan.specs.Checks.{IsOfDeparture}
use Rattle.lam_closed_rooms.proofs.CheckLemmas.{turns_say, no_turns_say}
use Rattle.lam_closed_rooms.proofs.book_check.check_book.Goals as goal

pub returns-in-Ok-clause-says : goal.returns-in-Ok-clause-says
returns-in-Ok-clause-says g c = λ told.
    let code = c.args.code.now in
    turns_say (g.H.Shelf.files c.args.shelf.now) (string_bytes c.args.book) code c.args.start (IsOfDeparture code c.args.start c.args.base.now) c.in-Ok.turns c.told.result (c.in-Ok.ensures.finds told)
    (subst (λ (ts : List ℕ). Says c.told.result (WhereReady (IsOfDeparture code c.args.start c.args.base.now ts) (stopped_at code ts c.args.start))) c.as_slice.ensures c.told.ensures.says)

pub returns-in-Err-clause-says : goal.returns-in-Err-clause-says
returns-in-Err-clause-says g c = λ told.
    no_turns_say (g.H.Shelf.files c.args.shelf.now) (string_bytes c.args.book) c.args.code.now c.args.start (IsOfDeparture c.args.code.now c.args.start c.args.base.now) (λ (turns : List ℕ). HasFile (g.H.Shelf.files c.args.shelf.now (string_bytes c.args.book)) book_limit (λ bytes. turns_of bytes ≡ Ok turns)) c.in-Err.halt (c.in-Err.ensures.finds told)

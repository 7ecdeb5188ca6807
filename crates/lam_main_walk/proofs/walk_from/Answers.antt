use Rattle.std.proofs.Common.{◌≡◌, ℕ, List, Ok, subst, string_bytes}
use Rattle.lam_resolve_tree.specs.Tree.{resolved_tree}
use Rattle.lam_machine_runs.specs.Stops.{stopped_at}
use Rattle.turn_book.specs.Reading.{turns_of}
use Rattle.lam_main_replay.specs.Reading.{HasFile, book_limit}
use Rattle.lam_main_replay.specs.Books.{WhereReady}
use Rattle.lam_main_replay.specs.Walks.{TellsSame}
use Rattle.lam_main_replay.specs.Halts.{Says}
use Rattle.lam_main_walk.proofs.SourceLemmas.{turns_say, no_turns_say}
use Rattle.lam_main_walk.proofs.walk_from.Goals as goal

pub returns-in-Ok-clause-says : goal.returns-in-Ok-clause-says
returns-in-Ok-clause-says g c = λ told.
    let s = c.args.source.now in
    turns_say (g.H.Shelf.files c.args.shelf.now) (string_bytes c.args.book) s.code c.args.start (TellsSame (resolved_tree s.program) s.code c.args.start) c.in-Ok.turns c.told.result (c.in-Ok.ensures.finds told)
    (subst (λ (ts : List ℕ). Says c.told.result (WhereReady (TellsSame (resolved_tree s.program) s.code c.args.start ts) (stopped_at s.code ts c.args.start))) c.as_slice.ensures c.told.ensures.says)

pub returns-in-Err-clause-says : goal.returns-in-Err-clause-says
returns-in-Err-clause-says g c = λ told.
    let s = c.args.source.now in
    no_turns_say (g.H.Shelf.files c.args.shelf.now) (string_bytes c.args.book) s.code c.args.start (TellsSame (resolved_tree s.program) s.code c.args.start) (λ (turns : List ℕ). HasFile (g.H.Shelf.files c.args.shelf.now (string_bytes c.args.book)) book_limit (λ bytes. turns_of bytes ≡ Ok turns)) c.in-Err.halt (c.in-Err.ensures.finds told)

use Rattle.std.proofs.Common.{ℕ, List, subst, string_bytes}
use Rattle.lam_machine_runs.specs.Stops.{stopped_at}
use Rattle.lam_main_replay.specs.Books.{WhereReady}
use Rattle.lam_main_replay.specs.Halts.{Finds}
use Rattle.lam_main_pair.specs.Halves.{NoRun, IsNoted}
use Rattle.lam_main_pair.proofs.PairLemmas.{half_found, no_half_found}
use Rattle.lam_main_pair.proofs.half.half_of.Goals as goal

pub returns-in-Ok-clause-finds : goal.returns-in-Ok-clause-finds
returns-in-Ok-clause-finds g c = λ told.
    half_found (g.H.Shelf.files c.args.shelf.now) (string_bytes c.args.book) c.args.code.now c.args.observer.now c.args.start c.in-Ok.turns c.noted.result (c.in-Ok.ensures.finds told)
    (subst (λ (ts : List ℕ). Finds c.noted.result (IsNoted c.args.code.now c.args.observer.now c.args.start ts) (WhereReady (NoRun ts) (stopped_at c.args.code.now ts c.args.start))) c.as_slice.ensures c.noted.ensures.finds)

pub returns-in-Err-clause-finds : goal.returns-in-Err-clause-finds
returns-in-Err-clause-finds g c = λ told.
    no_half_found (g.H.Shelf.files c.args.shelf.now) (string_bytes c.args.book) c.args.code.now c.args.observer.now c.args.start c.in-Err.halt (c.in-Err.ensures.finds told)

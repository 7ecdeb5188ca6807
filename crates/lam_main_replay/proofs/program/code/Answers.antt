use Rattle.std.proofs.Common.{◌≡◌, None, ap, string_bytes}
use Rattle.lam_bytecode.specs.Listing.{listing_text}
use Rattle.lam_main_plan.specs.Refusals.{prints}
use Rattle.lam_main_plan.proofs.ReadLemmas.{program_then}
use Rattle.lam_main_replay.proofs.FileLemmas.{by_no_code_found}
use Rattle.lam_main_replay.proofs.program.code.Goals as goal

pub returns-in_ok-listing-in-Ok-clause-gives : goal.returns-in_ok-listing-in-Ok-clause-gives
returns-in_ok-listing-in-Ok-clause-gives g c = λ told.
    (None, program_then (g.H.Shelf.files c.args.shelf.now (string_bytes c.args.program)) (string_bytes c.args.program) (λ tree p. p ≡ prints (listing_text tree)) _ c.in-Ok.code (c.in-Ok.ensures.finds told) (ap prints c.in_ok-listing-in-Ok.ensures), c.in-Ok.ensures.stay told)

pub returns-in-Err-clause-gives : goal.returns-in-Err-clause-gives
returns-in-Err-clause-gives g c = λ told.
    by_no_code_found (g.H.Shelf.files c.args.shelf.now (string_bytes c.args.program)) (string_bytes c.args.program) (λ tree p. p ≡ prints (listing_text tree)) (g.H.Shelf.files c.args.shelf.now) (g.H.Shelf.files c.read_compiled.new.shelf) c.in-Err.halt (c.in-Err.ensures.finds told) (c.in-Err.ensures.stay told)

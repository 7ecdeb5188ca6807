use Rattle.std.proofs.Common.{◌≡◌, ℕ, List, Ok}
use Rattle.turn_book.specs.Reading.{turns_of}
use Rattle.lam_main_replay.proofs.RunLemmas.{no_turns_found, no_shelf_book}
use Rattle.lam_main_replay.proofs.turns.turns_in.Goals as goal

pub returns-in-Err-clause-finds : goal.returns-in-Err-clause-finds
returns-in-Err-clause-finds c = no_turns_found (λ (turns : List ℕ). turns_of c.args.bytes.now ≡ Ok turns) c.args.bytes.now c.in-Err.fault c.book_halt.result c.in-Err.ensures.value c.book_halt.ensures

pub returns-in-Err-clause-no_fault : goal.returns-in-Err-clause-no_fault
returns-in-Err-clause-no_fault c = no_shelf_book c.in-Err.fault c.book_halt.result c.book_halt.ensures

use Rattle.std.proofs.Common.{◌≡◌, ℕ, List, Ok, subst, string_bytes}
use Rattle.turn_book.specs.Reading.{turns_of}
use Rattle.lam_main_words.specs.Words.{Text}
use Rattle.lam_main_plan.specs.Reading.{book_limit}
use Rattle.lam_main_plan.specs.Books.{NoTurns}
use Rattle.lam_main_replay.specs.Halts.{Finds}
use Rattle.lam_main_replay.proofs.FileLemmas.{found_in_file}
use Rattle.lam_main_replay.proofs.turns.read_turns.Goals as goal

pub returns-clause-finds : goal.returns-clause-finds
returns-clause-finds g c = λ told.
    found_in_file (g.H.Shelf.files c.args.shelf.now (string_bytes c.args.book)) (string_bytes c.args.book) book_limit (λ (turns : List ℕ) bytes. turns_of bytes ≡ Ok turns) NoTurns c.in_ok-bytes.bytes c.turns_in.result (c.in_ok-bytes.ensures.read told)
    (subst (λ (bytes : Text). Finds c.turns_in.result (λ (turns : List ℕ). turns_of bytes ≡ Ok turns) (NoTurns bytes)) c.as_slice.ensures.value c.turns_in.ensures.finds)

-- The turns that threads took, and what is made of them.
use Rattle.std.specs.Prelude.{◌≡◌, ℕ, Some, Result, Ok, Err, string_bytes}
use Rattle.lam_bytecode.specs.Codes.{CodeTree}
use Rattle.lam_machine_terms.specs.Worlds.{World}
use Rattle.turn_book.specs.Book.{AreTurns, book}
use Rattle.lam_machine_runs.specs.Ends.{Runs}
use Rattle.thread_host.specs.Runs.{IsWhole}
use Rattle.thread_host.specs.declared.Finished.{Finished}
use Rattle.lam_main_words.specs.Words.{Text}
use Rattle.lam_main_replay.specs.Refusals.{Plan}
use Rattle.lam_main_replay.specs.Threads.{status_of}
use Rattle.lam_main_replay.specs.declared.halt.Halt.{Halt}
use Rattle.lam_main_replay.specs.declared.halt.Halt.TheVariants.{Refused, NoMemory, ShelfFailed}
use Rattle.lam_main_replay.specs.Halts.{refuses}
use Rattle.lam_main_threads.specs.declared.parts.Ended.{Ended}
use Rattle.lam_main_threads.specs.declared.texts.Taken.{Taken}

-- ---- the turns

-- a finished run in its parts
pub record IsParted (finished : Finished) (ended : Ended) : Type 0 where
  pub code : ended.parts.code ≡ finished.run.code
  pub start : ended.parts.start ≡ finished.run.start
  pub turns : ended.parts.turns.items ≡ finished.run.turns
  pub how : ended.how ≡ finished.how
  pub whole : IsWhole finished.run

-- the turns are a run of this code from this start, within a budget, and it ended as is told
pub record IsEndedRun (code : CodeTree) (start : World) (budget : ℕ) (ended : Ended) : Type 0 where
  pub code_is : ended.parts.code ≡ code
  pub start_is : ended.parts.start ≡ start
  pub runs : Runs code start budget ended.parts.turns.items ended.how

-- a book can be made of the turns
abbrev pub HasBook : Ended → Type 0
HasBook ended = AreTurns ended.parts.turns.items

-- ---- what is made of them

-- this text, and the book of the turns
pub record IsShown (text : Text) (ended : Ended) (taken : Taken) : Type 0 where
  pub how_is : taken.how ≡ ended.how
  pub text_is : string_bytes taken.text ≡ text
  pub book_is : taken.book.items ≡ book ended.parts.turns.items

-- the text is printed, and the book is written to the file of a name
abbrev pub planned : Text → Taken → Plan
planned out taken = record { status = status_of taken.how; text = string_bytes taken.text; writes = Some (out, taken.book.items) }

-- what is made of turns, or a refusal, is planned for every name of the book; want of memory and a fault of the shelf
-- are never planned
abbrev pub Offers : Result Taken Halt → (Text → Plan → Type 0) → Type 0
Offers (Ok taken) IsPlan = (out : Text) → IsPlan out (planned out taken)
Offers (Err (Refused refusal)) IsPlan = (out : Text) → IsPlan out (refuses refusal)
Offers (Err NoMemory) IsPlan = Unit {0}
Offers (Err ShelfFailed) IsPlan = Unit {0}

-- What is made of the turns of a closed run.
use Rattle.std.specs.Prelude.{◌≡◌, ℕ, List, Some, Result, Ok, Err, string_bytes}
use Rattle.turn_book.specs.Book.{book}
use Rattle.closed_terms.specs.declared.End.{End}
use Rattle.lam_main_words.specs.Words.{Text}
use Rattle.lam_main_replay.specs.Status.TheVariants.{Done}
use Rattle.lam_main_replay.specs.Refusals.{Plan}
use Rattle.lam_main_replay.specs.declared.halt.Halt.{Halt}
use Rattle.lam_main_replay.specs.declared.halt.Halt.TheVariants.{Refused, NoMemory, ShelfFailed}
use Rattle.lam_main_replay.specs.Halts.{refuses}
use Rattle.lam_closed_rooms.specs.declared.texts.Taken.{Taken}

-- this end, this text, and the book of the turns
pub record IsShown (e : End) (text : Text) (turns : List ℕ) (taken : Taken) : Type 0 where
  pub end_is : taken.end ≡ e
  pub text_is : string_bytes taken.text ≡ text
  pub book_is : taken.book.items ≡ book turns

-- the text is printed, and the book is written to the file of a name
abbrev pub planned : Text → Taken → Plan
planned out taken = record { status = Done; text = string_bytes taken.text; writes = Some (out, taken.book.items) }

-- What is made of the turns is planned by their end for every name of the book, or a refusal for every name and end; want of
-- memory and a fault of the shelf are never planned.
abbrev pub Offers : Result Taken Halt → (Text → End → Plan → Type 0) → Type 0
Offers (Ok taken) IsPlan = (out : Text) → IsPlan out taken.end (planned out taken)
Offers (Err (Refused refusal)) IsPlan = (out : Text) (e : End) → IsPlan out e (refuses refusal)
Offers (Err NoMemory) IsPlan = Unit {0}
Offers (Err ShelfFailed) IsPlan = Unit {0}

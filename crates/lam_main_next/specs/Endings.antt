-- What is made of the end of a run, as a plan.
use Rattle.std.specs.Prelude.{◌≡◌, Some, Result, Ok, Err, string_bytes}
use Rattle.world_save_files.specs.declared.document.SaveFault.{SaveFault}
use Rattle.world_save_files.specs.declared.document.SaveFault.TheVariants as fault
use Rattle.world_save_files.specs.declared.document.Saved.{Saved}
use Rattle.lam_main_words.specs.Words.{Text}
use Rattle.lam_main_replay.specs.Status.TheVariants.{Done}
use Rattle.lam_main_replay.specs.Refusals.{Plan}
use Rattle.lam_main_replay.specs.Saves.{saved_line}
use Rattle.lam_main_replay.specs.declared.halt.Refusal.TheVariants.{Unnamed, BadText, TooBig}
use Rattle.lam_main_replay.specs.declared.halt.Halt.{Halt}
use Rattle.lam_main_replay.specs.declared.halt.Halt.TheVariants.{Refused, NoMemory, ShelfFailed}
use Rattle.lam_main_replay.specs.Halts.{refuses}
use Rattle.lam_main_next.specs.declared.run_end.Ending.{Ending}

-- the line is printed, and the document is written to the file of a name
abbrev pub planned : Text → Ending → Plan
planned out ending = record { status = Done; text = string_bytes ending.text; writes = Some (out, ending.document.items) }

-- what is made of turns, or a refusal, is planned for every name of the document; want of memory and a fault of the shelf
-- are never planned
abbrev pub Offers : Result Ending Halt → (Text → Plan → Type 0) → Type 0
Offers (Ok ending) IsPlan = (out : Text) → IsPlan out (planned out ending)
Offers (Err (Refused refusal)) IsPlan = (out : Text) → IsPlan out (refuses refusal)
Offers (Err NoMemory) IsPlan = Unit {0}
Offers (Err ShelfFailed) IsPlan = Unit {0}

-- the line of a document that is saved, and the document
pub record IsToldOf (saved : Saved) (ending : Ending) : Type 0 where
  pub text_is : string_bytes ending.text ≡ saved_line saved.items
  pub document_is : ending.document.items ≡ saved.text.items

-- what that nothing is saved halts with
abbrev pub halt_of_save : SaveFault → Halt
halt_of_save (fault.Unnamed tag) = Refused (Unnamed tag)
halt_of_save (fault.BadText item) = Refused (BadText item)
halt_of_save (fault.TooBig bytes) = Refused (TooBig bytes)
halt_of_save fault.NoMemory = NoMemory

-- How a call answers to its plan: its status, what the sink took, and the files.
use Rattle.std.specs.Prelude.{◌≡◌, [], Option}
use Rattle.lam_io.specs.Outside.{Took, TookFront}
use Rattle.lam_main_words.specs.Words.{Text}
use Rattle.lam_main_plan.specs.Answer.{IsWritten, OthersKept}
pub use Rattle.lam_main_plan.specs.Answer.{Outside, outside}
use Rattle.lam_closed_plan.specs.declared.Status.{Status}
use Rattle.lam_closed_plan.specs.declared.Status.TheVariants.{NoMemory, ShelfFault, SinkFault}
use Rattle.lam_closed_plan.specs.Outcome.{Plan}

-- all of a text was printed, and the call ended as planned; or the sink failed, after a front of the text
pub data IsPrinted (status planned : Status) (text : Text) (old new : Option Text) : Type 0 where
  whole : status ≡ planned → Took old new text → IsPrinted status planned text old new
  front : status ≡ SinkFault → TookFront old new text → IsPrinted status planned text old new

-- the call did what is planned, unless the sink failed
pub record AsPlanned (status : Status) (plan : Plan) (old new : Outside) : Type 0 where
  pub printed : IsPrinted status plan.status plan.text old.taken new.taken
  pub files : IsWritten plan.writes old.files new.files

-- The answers of a call that is asked to write this file, if any: it did what some plan says; or memory ran out or the shelf
-- failed, and then nothing was printed, and no file changed but the one that was to be written.
pub data IsAnswer (asked : Option Text) (status : Status) (IsPlan : Plan → Type 0) (old new : Outside) : Type 0 where
  by_plan : (plan : Plan) → IsPlan plan → AsPlanned status plan old new → IsAnswer asked status IsPlan old new
  out_of_memory : status ≡ NoMemory → Took old.taken new.taken [] → OthersKept asked old.files new.files → IsAnswer asked status IsPlan old new
  shelf_failed : status ≡ ShelfFault → Took old.taken new.taken [] → OthersKept asked old.files new.files → IsAnswer asked status IsPlan old new

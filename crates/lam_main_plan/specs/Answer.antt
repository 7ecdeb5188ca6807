-- How a call answers to its plan: its status, what the sink took, and the files.
use Rattle.std.specs.Prelude.{◌≡◌, [], Option, Some, None}
use Rattle.lam_io.specs.Outside.{Files, AllStay, OthersStay, Took, TookFront}
use Rattle.lam_main_words.specs.Words.{Text}
use Rattle.lam_main_plan.specs.declared.Status.{Status}
use Rattle.lam_main_plan.specs.declared.Status.TheVariants.{NoMemory, ShelfFault, SinkFault}
use Rattle.lam_main_plan.specs.Refusals.{Plan}

-- the files, and what the sink took, where it is told
pub record Outside : Type 0 where
  pub files : Files
  pub taken : Option Text

abbrev pub outside : Files → Option Text → Outside
outside files taken = record { files = files; taken = taken }

-- all of a text was printed, and the call ended as planned; or the sink failed, after a front of the text
pub data IsPrinted (status planned : Status) (text : Text) (old new : Option Text) : Type 0 where
  whole : status ≡ planned → Took old new text → IsPrinted status planned text old new
  front : status ≡ SinkFault → TookFront old new text → IsPrinted status planned text old new

-- the planned file was written as planned, and the others are as they were
abbrev pub IsWritten : Option (Text × Text) → Files → Files → Type 0
IsWritten None old new = AllStay old new
IsWritten (Some file) old new = (new file.0 ≡ Some file.1) × OthersStay old new file.0

-- a file of a name, if there is one, may hold anything, and the others are as they were
abbrev pub OthersKept : Option Text → Files → Files → Type 0
OthersKept None old new = AllStay old new
OthersKept (Some name) old new = OthersStay old new name

-- the call did what is planned, unless the sink failed
pub record AsPlanned (status : Status) (plan : Plan) (old new : Outside) : Type 0 where
  pub printed : IsPrinted status plan.status plan.text old.taken new.taken
  pub files : IsWritten plan.writes old.files new.files

-- The answers of a call of this plan that is asked to write this file, if any. Where memory ran out or the shelf failed nothing
-- was printed, and no file changed but the one that was to be written.
pub data IsAnswer (asked : Option Text) (status : Status) (plan : Plan) (old new : Outside) : Type 0 where
  as_planned : AsPlanned status plan old new → IsAnswer asked status plan old new
  out_of_memory : status ≡ NoMemory → Took old.taken new.taken [] → OthersKept asked old.files new.files → IsAnswer asked status plan old new
  shelf_failed : status ≡ ShelfFault → Took old.taken new.taken [] → OthersKept asked old.files new.files → IsAnswer asked status plan old new

-- the call did what some plan says, unless memory ran out or the shelf failed
pub data IsPlanned (status : Status) (IsPlan : Plan → Type 0) (old new : Outside) : Type 0 where
  by_plan : (plan : Plan) → IsPlan plan → AsPlanned status plan old new → IsPlanned status IsPlan old new
  without_memory : status ≡ NoMemory → IsPlanned status IsPlan old new
  without_shelf : status ≡ ShelfFault → IsPlanned status IsPlan old new

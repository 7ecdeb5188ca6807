-- What the answer of a command means as a plan, where the plan is by the end of a closed run.
use Rattle.std.specs.Prelude.{Option, Result, Ok, Err, string_bytes}
use Rattle.lam_io.specs.Outside.{Files, AllStay}
use Rattle.closed_terms.specs.declared.End.{End}
use Rattle.lam_main_words.specs.Words.{Text}
use Rattle.lam_main_replay.specs.Status.TheVariants.{Done}
use Rattle.lam_main_replay.specs.Refusals.{Plan}
use Rattle.lam_main_replay.specs.Answer.{IsWritten}
use Rattle.lam_main_replay.specs.declared.halt.Halt.{Halt}
use Rattle.lam_main_replay.specs.declared.halt.Halt.TheVariants.{Refused, NoMemory, ShelfFailed}
use Rattle.lam_main_replay.specs.Halts.{refuses}
use Rattle.lam_closed_rooms.specs.declared.Report.{Report}

-- A report that is planned by its end, or a refusal that is planned by every end, and what became of the files; want of memory
-- and a fault of the shelf are never planned.
abbrev pub Reports : Result Report Halt → (End → Plan → Type 0) → Files → Files → Type 0
Reports (Ok report) IsPlan old new = (writes : Option (Text × Text)) × IsPlan report.end (record { status = Done; text = string_bytes report.text; writes = writes }) × IsWritten writes old new
Reports (Err (Refused refusal)) IsPlan old new = ((e : End) → IsPlan e (refuses refusal)) × AllStay old new
Reports (Err NoMemory) IsPlan old new = Unit {0}
Reports (Err ShelfFailed) IsPlan old new = Unit {0}

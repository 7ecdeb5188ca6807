-- What the answer of a command means as a plan, and how a call ends with it.
use Rattle.std.specs.Prelude.{◌≡◌, [], Option, Result, Ok, Err, String, string_bytes}
use Rattle.std.specs.declared.alloc.Global.{Global}
use Rattle.lam_io.specs.Outside.{Files, AllStay, Took, TookFront}
use Rattle.lam_io.specs.declared.SinkFault.{SinkFault as Failure}
use Rattle.closed_terms.specs.declared.End.TheVariants.{Done as all_ended}
use Rattle.lam_main_words.specs.Words.{Text}
use Rattle.lam_main_plan.specs.Answer.{IsWritten}
use Rattle.lam_main_replay.specs.declared.halt.Halt.{Halt}
use Rattle.lam_main_replay.specs.declared.halt.Halt.TheVariants.{Refused, NoMemory, ShelfFailed}
use Rattle.lam_main_replay.specs.Halts.{refuses}
use Rattle.lam_closed_plan.specs.declared.Status.{Status}
use Rattle.lam_closed_plan.specs.declared.Status.TheVariants.{NoMemory as ended_without_memory, ShelfFault, SinkFault}
use Rattle.lam_closed_plan.specs.Outcome.{Plan, status_of}
use Rattle.lam_closed_plan.specs.Plan.{plain}
use Rattle.lam_closed_plan.specs.Answer.{IsPrinted}
use Rattle.lam_closed_rooms.specs.declared.Report.{Report}

-- the report of a command that takes no run to its end
abbrev pub done : Result (String Global) Halt → Result Report Halt
done (Ok text) = Ok (record { end = all_ended; text = text })
done (Err halt) = Err halt

-- a report or a refusal that is planned, and what became of the files; want of memory and a fault of the shelf are never planned
abbrev pub Reports : Result Report Halt → (Plan → Type 0) → Files → Files → Type 0
Reports (Ok report) IsPlan old new = (writes : Option (Text × Text)) × IsPlan (record { status = status_of report.end; text = string_bytes report.text; writes = writes }) × IsWritten writes old new
Reports (Err (Refused refusal)) IsPlan old new = IsPlan (plain (refuses refusal)) × AllStay old new
Reports (Err NoMemory) IsPlan old new = Unit {0}
Reports (Err ShelfFailed) IsPlan old new = Unit {0}

-- all of a text went out, and the call is to end with this status; or a front of it, until the sink failed
abbrev pub Prints : Result Status Failure → Status → Text → Option Text → Option Text → Type 0
Prints (Ok status) planned text old new = (status ≡ planned) × Took old new text
Prints (Err failure) planned text old new = TookFront old new text

-- the status of what was printed, or that of a fault of the sink
abbrev pub ended : Result Status Failure → Status
ended (Ok status) = status
ended (Err failure) = SinkFault

-- the call's status, and what the sink took
abbrev pub Ends : Status → Result Report Halt → Option Text → Option Text → Type 0
Ends status (Ok report) old new = IsPrinted status (status_of report.end) (string_bytes report.text) old new
Ends status (Err (Refused refusal)) old new = IsPrinted status (plain (refuses refusal)).status (refuses refusal).text old new
Ends status (Err NoMemory) old new = (status ≡ ended_without_memory) × Took old new []
Ends status (Err ShelfFailed) old new = (status ≡ ShelfFault) × Took old new []

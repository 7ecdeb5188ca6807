-- How a call ends with the answer of its command.
use Rattle.std.specs.Prelude.{◌≡◌, [], Option, Result, Ok, Err, string_bytes}
use Rattle.lam_io.specs.Outside.{Took}
use Rattle.lam_main_words.specs.Words.{Text}
use Rattle.lam_main_plan.specs.declared.Status.{Status}
use Rattle.lam_main_plan.specs.declared.Status.TheVariants.{NoMemory as ended_without_memory, ShelfFault}
use Rattle.lam_main_plan.specs.Threads.{status_of}
use Rattle.lam_main_plan.specs.Answer.{IsPrinted}
use Rattle.lam_main_replay.specs.declared.report.Report.{Report}
use Rattle.lam_main_replay.specs.declared.halt.Halt.{Halt}
use Rattle.lam_main_replay.specs.declared.halt.Halt.TheVariants.{Refused, NoMemory, ShelfFailed}
use Rattle.lam_main_replay.specs.Halts.{refuses}

-- its status, and what the sink took
abbrev pub Ends : Status → Result Report Halt → Option Text → Option Text → Type 0
Ends status (Ok report) old new = IsPrinted status (status_of report.how) (string_bytes report.text) old new
Ends status (Err (Refused refusal)) old new = IsPrinted status (refuses refusal).status (refuses refusal).text old new
Ends status (Err NoMemory) old new = (status ≡ ended_without_memory) × Took old new []
Ends status (Err ShelfFailed) old new = (status ≡ ShelfFault) × Took old new []

-- What is asked of a run, and what the faults of the parts that are read halt with.
use Rattle.std.specs.Prelude.{◌≡◌, List, Option, Some, Ok, string_bytes}
use Rattle.lam_bytecode.specs.Codes.{CodeTree}
use Rattle.lam_machine_terms.specs.Worlds.{World}
use Rattle.lam_machine_terms.specs.Turns.{Moment}
use Rattle.audit_log_lines.specs.Log.{view_lines, audit_lines}
use Rattle.turn_book.specs.declared.BookFault.{BookFault}
use Rattle.turn_book.specs.declared.BookFault.TheVariants as book
use Rattle.world_doc_terms.specs.Start.{start_of}
use Rattle.lam_machine_runs.specs.Stops.{NotReady as NotReadyAt}
use Rattle.audit_log_lines.specs.RunFault.{RunFault}
use Rattle.audit_log_lines.specs.RunFault.TheVariants as run
use Rattle.lam_main_words.specs.Words.{Text}
use Rattle.lam_main_plan.specs.Replays.{Reader as Plain, an_observer, an_auditor, RunFiles as PlainFiles}
use Rattle.lam_main_replay.specs.declared.halt.BookBreak.TheVariants.{Head, Line, SameThread, TooMany}
use Rattle.lam_main_replay.specs.declared.halt.Refusal.TheVariants.{Book, NotReady}
use Rattle.lam_main_replay.specs.declared.halt.Halt.{Halt}
use Rattle.lam_main_replay.specs.declared.halt.Halt.TheVariants.{Refused, NoMemory}
use Rattle.lam_main_replay.specs.declared.Reader.{Reader}
use Rattle.lam_main_replay.specs.declared.Reader.TheVariants as reader
use Rattle.lam_main_replay.specs.declared.RunFiles.{RunFiles}
use Rattle.lam_main_replay.specs.declared.viewer.Viewer.{Viewer}
use Rattle.lam_main_replay.specs.declared.viewer.Viewer.TheVariants.{Observer, Auditor}

abbrev pub files_of : RunFiles → PlainFiles
files_of files = record { world = string_bytes files.world; book = string_bytes files.book }

abbrev pub reader_of : Reader → Plain
reader_of (reader.Observer index label) = an_observer index (string_bytes label)
reader_of reader.Auditor = an_auditor

-- some document gives this start
abbrev pub IsStartOf : CodeTree → World → Type 0
IsStartOf code start = (bytes : Text) × (start_of bytes code ≡ Ok start)

-- ---- who reads

-- the text that the reader is shown of a run
abbrev pub lines_for : Viewer → List Text → List Moment → Text
lines_for (Observer label) names = view_lines names label
lines_for Auditor names = audit_lines names

-- ---- what the faults halt with

abbrev pub halt_of_book : BookFault → Halt
halt_of_book book.BadHead = Refused (Book Head 1)
halt_of_book (book.BadLine number) = Refused (Book Line number)
halt_of_book (book.SameThread number) = Refused (Book SameThread number)
halt_of_book (book.TooMany number) = Refused (Book TooMany number)
halt_of_book book.NoMemory = NoMemory

abbrev pub halt_of_run : RunFault → Halt
halt_of_run (run.NotReady turn thread) = Refused (NotReady turn thread)
halt_of_run run.NoMemory = NoMemory

-- turns halt at the first whose thread is not ready, or for want of memory
abbrev pub HaltsAt : Halt → Option NotReadyAt → Type 0
HaltsAt (Refused (NotReady turn thread)) stop = stop ≡ Some (record { turn = turn; thread = thread })
HaltsAt NoMemory stop = Unit {0}
HaltsAt halt stop = ⊥

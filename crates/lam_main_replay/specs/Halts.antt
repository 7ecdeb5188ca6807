-- What the answers of a command mean as plans.
use Rattle.std.specs.Prelude.{◌≡◌, ◌≤◌, ℕ, [], ◌∷◌, length, Option, Some, Result, Ok, Err, String, string_bytes, Vec, codes, decimal, refl}
use Rattle.std.specs.declared.alloc.Global.{Global}
use Rattle.lam_io.specs.Outside.{Files, AllStay}
use Rattle.lam_front.specs.declared.fault.ProgramFault.{ProgramFault}
use Rattle.lam_front.specs.declared.fault.ProgramFault.TheVariants.{NotUtf8 as no_utf8, At, NoMemory as no_memory_of_it}
use Rattle.lam_main_plan.specs.InputFault.{InputFault}
use Rattle.lam_main_plan.specs.InputFault.TheVariants as input
use Rattle.world_doc_terms.specs.Breaks.{break_seen}
use Rattle.turn_book.specs.declared.BookFault.TheVariants as book
use Rattle.lam_main_words.specs.Words.{Text}
use Rattle.lam_main_plan.specs.declared.Status.TheVariants.{Done, Book as book_status}
use Rattle.lam_main_plan.specs.Refusals.{Plan, prints, refused, no_word, no_script, no_program, no_code, no_world, unnamed_tag, bad_text, too_big, no_book, no_turn, absent, too_long}
use Rattle.lam_main_plan.specs.Reading.{IsUnread}
use Rattle.lam_main_plan.specs.Threads.{status_of}
use Rattle.lam_main_plan.specs.Answer.{IsWritten}
use Rattle.lam_machine_runs.specs.declared.How.TheVariants.{Done as all_ended}
use Rattle.lam_main_replay.specs.declared.halt.BookBreak.{BookBreak}
use Rattle.lam_main_replay.specs.declared.halt.BookBreak.TheVariants.{Head, Line, SameThread, TooMany}
use Rattle.lam_main_replay.specs.declared.halt.Refusal.{Refusal}
use Rattle.lam_main_replay.specs.declared.halt.Refusal.TheVariants.{Word, Script, NotUtf8, Flawed, CodeTooLong, World, Unnamed, BadText, TooBig, Book, NotReady, Absent, TooLong}
use Rattle.lam_main_replay.specs.declared.report.Report.{Report}
use Rattle.lam_main_replay.specs.declared.halt.Halt.{Halt}
use Rattle.lam_main_replay.specs.declared.halt.Halt.TheVariants.{Refused, NoMemory, ShelfFailed}

-- what is broken in a line of a book, as it is printed
abbrev pub words_of : BookBreak → Text
words_of Head = codes "BadHead line "
words_of Line = codes "BadLine line "
words_of SameThread = codes "SameThread line "
words_of TooMany = codes "TooMany line "

-- the plan of a refusal
abbrev pub refuses : Refusal → Plan
refuses (Word index) = no_word index
refuses (Script number) = no_script number
refuses NotUtf8 = no_program no_utf8
refuses (Flawed flaw at) = no_program (At flaw at)
refuses (CodeTooLong unit) = no_code unit
refuses (World breach) = no_world (break_seen breach)
refuses (Unnamed tag) = unnamed_tag tag
refuses (BadText item) = bad_text item
refuses (TooBig bytes) = too_big bytes
refuses (Book flaw number) = refused book_status (words_of flaw ∷ decimal number ∷ [])
refuses (NotReady turn thread) = no_turn (record { turn = turn; thread = thread })
refuses (Absent name) = absent (string_bytes name)
refuses (TooLong name) = too_long (string_bytes name)

-- the halt of a program's fault
abbrev pub halt_of : ProgramFault → Halt
halt_of no_utf8 = Refused NotUtf8
halt_of (At flaw at) = Refused (Flawed flaw at)
halt_of no_memory_of_it = NoMemory

-- and of a fault of a run's inputs
abbrev pub halt_of_input : InputFault → Halt
halt_of_input input.NotUtf8 = Refused NotUtf8
halt_of_input (input.Flawed flaw at) = Refused (Flawed flaw at)
halt_of_input (input.CodeTooLong unit) = Refused (CodeTooLong unit)
halt_of_input (input.World breach) = Refused (World breach)
halt_of_input input.NoMemory = NoMemory

-- What is looked for and found, or a refusal that is planned, where no file is looked at; want of memory and a fault of
-- the shelf are never planned.
abbrev pub Finds : {X : Type 0} → Result X Halt → (X → Type 0) → (Plan → Type 0) → Type 0
Finds (Ok x) IsIt IsPlan = IsIt x
Finds (Err (Refused refusal)) IsIt IsPlan = IsPlan (refuses refusal)
Finds (Err NoMemory) IsIt IsPlan = Unit {0}
Finds (Err ShelfFailed) IsIt IsPlan = Unit {0}

-- a text or a refusal that is planned
abbrev pub Says : Result (String Global) Halt → (Plan → Type 0) → Type 0
Says (Ok text) IsPlan = IsPlan (prints (string_bytes text))
Says (Err (Refused refusal)) IsPlan = IsPlan (refuses refusal)
Says (Err NoMemory) IsPlan = Unit {0}
Says (Err ShelfFailed) IsPlan = Unit {0}

-- the same, with what became of the files
abbrev pub Gives : Result (String Global) Halt → (Plan → Type 0) → Files → Files → Type 0
Gives (Ok text) IsPlan old new = (writes : Option (Text × Text)) × IsPlan (record { status = Done; text = string_bytes text; writes = writes }) × IsWritten writes old new
Gives (Err (Refused refusal)) IsPlan old new = IsPlan (refuses refusal) × AllStay old new
Gives (Err NoMemory) IsPlan old new = Unit {0}
Gives (Err ShelfFailed) IsPlan old new = Unit {0}

-- a report of a command that starts no thread
abbrev pub done : Result (String Global) Halt → Result Report Halt
done (Ok text) = Ok (record { how = all_ended; text = text })
done (Err halt) = Err halt

-- a report or a refusal that is planned, and what became of the files
abbrev pub Reports : Result Report Halt → (Plan → Type 0) → Files → Files → Type 0
Reports (Ok report) IsPlan old new = (writes : Option (Text × Text)) × IsPlan (record { status = status_of report.how; text = string_bytes report.text; writes = writes }) × IsWritten writes old new
Reports (Err (Refused refusal)) IsPlan old new = IsPlan (refuses refusal) × AllStay old new
Reports (Err NoMemory) IsPlan old new = Unit {0}
Reports (Err ShelfFailed) IsPlan old new = Unit {0}

-- the bytes of a file of a name and with a limit, or that it is not there or too long
abbrev pub IsRead : Result (Vec ℕ Global) Halt → Option Text → Text → ℕ → Type 0
IsRead (Ok bytes) found name limit = (found ≡ Some bytes.items) × (length bytes.items ≤ limit)
IsRead (Err (Refused refusal)) found name limit = IsUnread found name limit (refuses refusal)
IsRead (Err NoMemory) found name limit = Unit {0}
IsRead (Err ShelfFailed) found name limit = Unit {0}

-- a line of a book is refused as the plan says
head_refused : refuses (Book Head 1) ≡ no_book book.BadHead
head_refused = refl

line_refused : (number : ℕ) → refuses (Book Line number) ≡ no_book (book.BadLine number)
line_refused number = refl

-- The number that a status ends the process with.
use Rattle.std.specs.Prelude.{ℕ}
use Rattle.lam_closed_plan.specs.declared.Status.{Status}
use Rattle.lam_closed_plan.specs.declared.Status.TheVariants.{Done, NoMemory, Words, Program, World, Book, Missing, ShelfFault, SinkFault, Cut, Waits, Stalled, Over}

abbrev pub code_of : Status → ℕ
code_of Done = 0
code_of NoMemory = 1
code_of Words = 2
code_of Program = 3
code_of World = 4
code_of Book = 5
code_of Missing = 6
code_of ShelfFault = 7
code_of SinkFault = 8
code_of Cut = 9
code_of Waits = 10
code_of Stalled = 11
code_of Over = 12

-- What is read of a run, for the commands that go on from its turns: the start that a document describes, an observer's
-- label by the start's tags, and the turns of a book.
use Rattle.std.specs.Prelude.{◌≡◌, ℕ, List, Option, Some, None, Result, Ok, Err}
use Rattle.flow_labels.specs.declared.Label.{Label}
use Rattle.flow_labels.specs.declared.texts.LabelFault.{LabelFault}
use Rattle.lam_io.specs.Outside.{Files}
use Rattle.lam_bytecode.specs.Codes.{CodeTree}
use Rattle.lam_machine_terms.specs.Worlds.{World}
use Rattle.world_doc_terms.specs.Start.{start_of}
use Rattle.turn_book.specs.Reading.{turns_of}
use Rattle.turn_book.specs.declared.BookFault.{BookFault}
use Rattle.lam_machine_runs.specs.Stops.{NotReady, stopped_at}
use Rattle.lam_main_words.specs.Words.{Text}
use Rattle.lam_main_plan.specs.Refusals.{Plan, no_word, no_book, no_turn}
use Rattle.lam_main_plan.specs.Reading.{WithFile, Never, world_limit, book_limit}
use Rattle.lam_main_plan.specs.Replays.{ByWorld}

-- the plan of the start that the document in a file describes
abbrev pub WithStart : Files → Text → CodeTree → (World → Plan → Type 0) → Plan → Type 0
WithStart files world code IsOf plan = WithFile (files world) world world_limit (λ bytes. ByWorld IsOf (start_of bytes code)) plan

-- the plan of an observer's label, whose text is the word of an index
abbrev pub ByLabel : ℕ → (Label → Plan → Type 0) → Result Label LabelFault → Plan → Type 0
ByLabel index IsOf (Ok observer) plan = IsOf observer plan
ByLabel index IsOf (Err fault) plan = plan ≡ no_word index

-- the plan of the turns of a book
abbrev pub ByTurns : (List ℕ → Plan → Type 0) → Result (List ℕ) BookFault → Plan → Type 0
ByTurns IsOf (Ok turns) plan = IsOf turns plan
ByTurns IsOf (Err fault) plan = plan ≡ no_book fault

-- the plan where there are no turns
abbrev pub NoTurns : Text → Plan → Type 0
NoTurns bytes plan = ByTurns Never (turns_of bytes) plan

-- the plan where the thread of each turn is ready
abbrev pub WhereReady : (Plan → Type 0) → Option NotReady → Plan → Type 0
WhereReady Is None plan = Is plan
WhereReady Is (Some stop) plan = plan ≡ no_turn stop

-- the plan of the turns of the book in a file, which are a run of a code from a start
abbrev pub WithRun : Files → Text → CodeTree → World → (List ℕ → Plan → Type 0) → Plan → Type 0
WithRun files book code start IsOf plan = WithFile (files book) book book_limit (λ bytes. ByTurns (λ turns. WhereReady (IsOf turns) (stopped_at code turns start)) (turns_of bytes)) plan

-- What is shown of a run that files describe: a program, the document of a world to start from, and a book, which says
-- whose turn comes when.
use Rattle.std.specs.Prelude.{◌≡◌, ℕ, List, Option, Some, None, Result, Ok, Err}
use Rattle.flow_labels.specs.LabelText.{label_of}
use Rattle.flow_labels.specs.declared.Label.{Label}
use Rattle.flow_labels.specs.declared.texts.LabelFault.{LabelFault}
use Rattle.lam_io.specs.Outside.{Files}
use Rattle.lam_bytecode.specs.Codes.{CodeTree}
use Rattle.lam_machine_terms.specs.Worlds.{World}
use Rattle.lam_machine_terms.specs.Turns.{Moment, moments}
use Rattle.audit_log.specs.Log.{view_lines, audit_lines}
use Rattle.world_doc_terms.specs.Breaks.{Reading}
use Rattle.world_doc_terms.specs.Start.{start_of}
use Rattle.turn_book.specs.Reading.{turns_of}
use Rattle.turn_book.specs.declared.BookFault.{BookFault}
use Rattle.lam_machine_runs.specs.Stops.{NotReady, stopped_at}
use Rattle.lam_main_words.specs.Words.{Text}
use Rattle.lam_main_plan.specs.Refusals.{Plan, prints, no_word, no_world, no_book, no_turn}
use Rattle.lam_main_plan.specs.Reading.{WithFile, Never, Thins, world_limit, book_limit}

-- who reads of a run: an observer at the label of a text, which is the word of an index, or an auditor
pub data Reader : Type 0 where
  an_observer : (index : ℕ) (label : Text) → Reader
  an_auditor : Reader

-- the files of a run, but for its program: the document of its start, and its book
pub record RunFiles : Type 0 where
  pub world : Text
  pub book : Text

-- what an observer reads; its label names the tags of the start
abbrev pub view_by : ℕ → List Text → Result Label LabelFault → Result (List Moment → Text) ℕ
view_by index names (Ok o) = Ok (view_lines names o)
view_by index names (Err fault) = Err index

abbrev pub read_by : Reader → List Text → Result (List Moment → Text) ℕ
read_by (an_observer index label) names = view_by index names (label_of names label)
read_by an_auditor names = Ok (audit_lines names)

-- a text of a run, where the thread of each turn is ready
abbrev pub by_turns : Option NotReady → Text → Plan
by_turns None text = prints text
by_turns (Some stop) text = no_turn stop

-- the plan of turns
abbrev pub by_list : CodeTree → World → (List Moment → Text) → List ℕ → Plan
by_list code start shown turns = by_turns (stopped_at code turns start) (shown (moments code turns start))

abbrev pub by_book : CodeTree → World → (List Moment → Text) → Result (List ℕ) BookFault → Plan
by_book code start shown (Ok turns) = by_list code start shown turns
by_book code start shown (Err fault) = no_book fault

abbrev pub IsOfTurns : CodeTree → World → (List Moment → Text) → List ℕ → Plan → Type 0
IsOfTurns code start shown turns plan = plan ≡ by_list code start shown turns

-- the plan of the bytes of a book
abbrev pub IsOfBook : CodeTree → World → (List Moment → Text) → Text → Plan → Type 0
IsOfBook code start shown bytes plan = plan ≡ by_book code start shown (turns_of bytes)

abbrev pub ByReader : ((List Moment → Text) → Plan → Type 0) → Result (List Moment → Text) ℕ → Plan → Type 0
ByReader IsOf (Ok shown) plan = IsOf shown plan
ByReader IsOf (Err index) plan = plan ≡ no_word index

abbrev pub ByWorld : (World → Plan → Type 0) → Reading World → Plan → Type 0
ByWorld IsOf (Ok start) plan = IsOf start plan
ByWorld IsOf (Err breach) plan = plan ≡ no_world breach

-- the plan where there is no start
abbrev pub NoStart : CodeTree → Text → Plan → Type 0
NoStart code bytes plan = ByWorld Never (start_of bytes code) plan

-- the plan of a start: who reads comes before the book
abbrev pub Replays : Files → Text → Reader → CodeTree → World → Plan → Type 0
Replays files book reader code start plan = ByReader (λ shown. WithFile (files book) book book_limit (IsOfBook code start shown)) (read_by reader start.names) plan

-- the plan of a code: the document of the start is read next
abbrev pub Starts : Files → RunFiles → Reader → CodeTree → Plan → Type 0
Starts files run reader code plan = WithFile (files run.world) run.world world_limit (λ bytes. ByWorld (Replays files run.book reader code) (start_of bytes code)) plan

-- the plan of the bytes of a program
abbrev pub Runs : Files → RunFiles → Reader → Text → Plan → Type 0
Runs files run reader bytes plan = Thins (Starts files run reader) bytes plan

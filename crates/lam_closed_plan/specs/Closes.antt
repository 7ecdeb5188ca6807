-- What is shown of the closed run of a program, from the world of a document, and by which end.
use Rattle.std.specs.Prelude.{◌≡◌, ℕ, List, Some}
use Rattle.flow_labels.specs.LabelText.{label_of}
use Rattle.flow_labels.specs.declared.Label.{Label}
use Rattle.lam_io.specs.Outside.{Files}
use Rattle.lam_bytecode.specs.Codes.{CodeTree}
use Rattle.lam_machine_terms.specs.Worlds.{World}
use Rattle.lam_machine_terms.specs.Turns.{Moment, moments}
use Rattle.turn_book.specs.Book.{book}
use Rattle.closed_terms.specs.declared.End.{End}
use Rattle.closed_terms.specs.Ends.{IsEnded}
use Rattle.lam_main_words.specs.Words.{Text}
use Rattle.lam_main_plan.specs.declared.Status.TheVariants.{Done}
use Rattle.lam_main_plan.specs.Refusals.{Plan}
use Rattle.lam_main_plan.specs.Reading.{Thins}
use Rattle.lam_main_plan.specs.Replays.{Reader, read_by, ByReader}
use Rattle.lam_main_plan.specs.Threads.{ThreadFiles}
use Rattle.lam_main_plan.specs.Books.{WithStart, ByLabel}

-- the indices of the words that are the observer's label and the base
abbrev pub observer_word : ℕ
observer_word = 3

abbrev pub base_word : ℕ
base_word = 6

-- what is asked of a closed run, but for its files: who reads, the text of the base, and how many open turns it may have
pub record Asked : Type 0 where
  pub reader : Reader
  pub base : Text
  pub turns : ℕ

-- what is shown of these turns is printed, and their book is written
abbrev pub shows_turns : CodeTree → World → Text → (List Moment → Text) → List ℕ → Plan
shows_turns code start out shown turns = record { status = Done; text = shown (moments code turns start); writes = Some (out, book turns) }

-- the plan of the closed run of a code from a start, over a base and with so many open turns, which ends so
pub record IsOfClosed (code : CodeTree) (start : World) (b : Label) (n : ℕ) (out : Text) (shown : List Moment → Text) (e : End) (plan : Plan) : Type 0 where
  pub turns : List ℕ
  pub ends : IsEnded b code n e turns start
  pub is : plan ≡ shows_turns code start out shown turns

-- the plan of a start and of who reads: the base is read by the tags of the start
abbrev pub ClosesOver : Text → Asked → End → CodeTree → World → (List Moment → Text) → Plan → Type 0
ClosesOver out asked e code start shown plan =
    ByLabel base_word (λ b. IsOfClosed code start b asked.turns out shown e) (label_of start.names asked.base) plan

-- the plan of a start: who reads comes before the base
abbrev pub ClosesFrom : Text → Asked → End → CodeTree → World → Plan → Type 0
ClosesFrom out asked e code start plan = ByReader (ClosesOver out asked e code start) (read_by asked.reader start.names) plan

-- the plan of a code: the document of the start is read next
abbrev pub ClosesCode : Files → ThreadFiles → Asked → End → CodeTree → Plan → Type 0
ClosesCode files run asked e code plan = WithStart files run.world code (ClosesFrom run.out asked e code) plan

-- the plan of the bytes of a program
abbrev pub Closes : Files → ThreadFiles → Asked → End → Text → Plan → Type 0
Closes files run asked e bytes plan = Thins (ClosesCode files run asked e) bytes plan

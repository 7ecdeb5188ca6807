-- Whether the run that files describe is closed, and if not, where it departs.
use Rattle.std.specs.Prelude.{◌≡◌, ℕ, List, [], ◌∷◌, Option, Some, None, codes, decimal, refl}
use Rattle.flow_labels.specs.LabelText.{label_of}
use Rattle.flow_labels.specs.declared.Label.{Label}
use Rattle.lam_io.specs.Outside.{Files}
use Rattle.lam_bytecode.specs.Codes.{CodeTree}
use Rattle.lam_machine_terms.specs.Worlds.{World}
use Rattle.closed_terms.specs.declared.Departure.{Departure}
use Rattle.closed_terms.specs.Departures.{departure}
use Rattle.lam_main_words.specs.Words.{Text}
use Rattle.lam_main_plan.specs.Refusals.{Plan, prints, line}
use Rattle.lam_main_plan.specs.Reading.{Thins}
use Rattle.lam_main_plan.specs.Replays.{RunFiles}
use Rattle.lam_main_plan.specs.Books.{WithStart, WithRun, ByLabel}

-- the index of the word that is the base
abbrev pub base_word : ℕ
base_word = 5

-- the line of what is to be said of turns
abbrev pub departure_line : Option Departure → Text
departure_line None = line (codes "closed" ∷ [])
departure_line (Some d) = line (codes "departs at turn " ∷ decimal d.turn ∷ codes " thread " ∷ decimal d.thread ∷ [])

-- the plan of turns that are a run
abbrev pub IsOfDeparture : CodeTree → World → Label → List ℕ → Plan → Type 0
IsOfDeparture code start b turns plan = plan ≡ prints (departure_line (departure b code turns start))

-- the plan of a start: its tags are read in the base, and then the book is read
abbrev pub ChecksFrom : Files → Text → Text → CodeTree → World → Plan → Type 0
ChecksFrom files book base code start plan =
    ByLabel base_word (λ b. WithRun files book code start (IsOfDeparture code start b)) (label_of start.names base) plan

-- the plan of a code: the document of the start is read next
abbrev pub ChecksCode : Files → RunFiles → Text → CodeTree → Plan → Type 0
ChecksCode files run base code plan = WithStart files run.world code (ChecksFrom files run.book base code) plan

-- the plan of the bytes of a program
abbrev pub Checks : Files → RunFiles → Text → Text → Plan → Type 0
Checks files run base bytes plan = Thins (ChecksCode files run base) bytes plan

-- ---- worked examples
closed_line : departure_line None ≡ codes "closed\n"
closed_line = refl

-- What the actors of a play do to its cells, step by step.
--
-- With the tag a, an actor p of the label {a}/{} with the capability a-, a cell c of {a}/{} that holds 7
-- and a cell d of {}/{} that holds 0, the step `p copy c d` is a moment that is Done with 7, after which d
-- holds 7. Where p has no capability it is Refused with DropS and a, and d holds 0 as before.
use Rattle.std.specs.Prelude.{ℕ, ℤ, List, [], ◌∷◌, ◌++◌, map, Option, Some, None, slice_get}
use Rattle.flow_labels.specs.declared.Label.{Label}
use Rattle.flow_labels.specs.declared.Denied.{Denied}
use Rattle.flow_labels.specs.Failing.{Test, first_failing, read_test, write_test}
use Rattle.capabilities.specs.declared.Caps.{Caps}
use Rattle.capabilities.specs.Changes.{joined, change_test, used}
use Rattle.capabilities.specs.Kinds.{public_of}
use Rattle.labelled_heap.specs.declared.cells.Cell.{Cell}
use Rattle.labelled_heap.specs.CellAt.{with_value}
use Rattle.play_script.specs.declared.Actor.{Actor}
use Rattle.play_script.specs.declared.Cell.{Cell as Declared}
use Rattle.play_script.specs.declared.Step.{Step}
use Rattle.play_script.specs.declared.Step.TheVariants.{Read, Write, Copy}
use Rattle.play_script.specs.Script.{Play}
use Rattle.play_run.specs.declared.steps.Outcome.{Outcome}
use Rattle.play_run.specs.declared.steps.Outcome.TheVariants.{Done, Refused}

-- who acts: the actors, and the capabilities that each of them may use since they are public
pub record Cast : Type 0 where
  pub actors : List Actor
  pub public : Caps

abbrev pub with_public : Caps → List Actor → Cast
with_public public actors = record { actors = actors; public = public }

abbrev pub cast_of : Play → Cast
cast_of play = with_public (public_of play.kinds) play.actors

-- a step that was taken: the acting actor's label, the step, and how it went
pub record Event : Type 0 where
  pub label : Label
  pub step : Step
  pub outcome : Outcome

-- what a copy tells: its words, with the actor and the two cells; the number; and the capabilities that the
-- change from the actor's label to that of the second cell used
pub record Release : Type 0 where
  pub copy : Step
  pub value : ℤ
  pub by : Caps

-- a copy that was done: the label of the cell that it wrote, and what it tells
pub record Copied : Type 0 where
  pub label : Label
  pub release : Release

-- a step of the run: its event, the copy where it is one that was done, and the cells after it
pub record Moment : Type 0 where
  pub event : Event
  pub copied : Option Copied
  pub cells : List Cell

-- p copies from a cell into another: it reads the first, and may change the label of what it reads, and
-- its own, to that of the second, with its capabilities and those that are public
abbrev pub copy_test : Caps → Actor → Label → Label → Test
copy_test public p c d = read_test p.label c ++ change_test (joined p.caps public) c d ++ change_test (joined p.caps public) p.label d

abbrev pub went : Option Denied → ℤ → Outcome
went None v = Done v
went (Some denied) v = Refused denied

-- a step with a test and a number is done with the number where nothing of the test fails
abbrev pub outcome_of : Test → ℤ → Outcome
outcome_of test v = went (first_failing test) v

abbrev pub put : List Cell → ℕ → Outcome → List Cell
put cells n (Done v) = with_value cells n v
put cells n (Refused denied) = cells

-- the cells after a step that went so: a refused step and a read change nothing
abbrev pub cells_after : List Cell → Step → Outcome → List Cell
cells_after cells (Read p n) outcome = cells
cells_after cells (Write p n v) outcome = put cells n outcome
cells_after cells (Copy p n m) outcome = put cells m outcome

-- what comes of a thing, where it is there
abbrev pub found : {A B : Type 0} → Option A → (A → Option B) → Option B
found None f = None
found (Some x) f = f x

-- what an actor of the label p copied into a cell of the label d
abbrev pub copied_into : Label → Step → Label → Outcome → Option Copied
copied_into p step d (Done v) = Some (record { label = d; release = record { copy = step; value = v; by = used p d } })
copied_into p step d (Refused denied) = None

-- the actor p has taken a step: how it went, and for a copy the label of the cell that it writes
abbrev pub taken : List Cell → Actor → Step → Outcome → Option Label → Moment
taken cells p step outcome into =
    record {
      event = record { label = p.label; step = step; outcome = outcome };
      copied = found into (λ d. copied_into p.label step d outcome);
      cells = cells_after cells step outcome;
    }

-- the moment of a step; of one that names an actor or a cell that is not there is none
abbrev pub moment_of : Cast → List Cell → Step → Option Moment
moment_of cast cells (Read a n) =
    found (slice_get cast.actors a) (λ p. found (slice_get cells n) (λ c.
    Some (taken cells p (Read a n) (outcome_of (read_test p.label c.label) c.value) None)))
moment_of cast cells (Write a n v) =
    found (slice_get cast.actors a) (λ p. found (slice_get cells n) (λ c.
    Some (taken cells p (Write a n v) (outcome_of (write_test p.label c.label) v) None)))
moment_of cast cells (Copy a n m) =
    found (slice_get cast.actors a) (λ p. found (slice_get cells n) (λ c. found (slice_get cells m) (λ d.
    Some (taken cells p (Copy a n m) (outcome_of (copy_test cast.public p c.label d.label) c.value) (Some d.label)))))

abbrev pub goes_on : List Cell → Option Moment → (List Cell → List Moment) → List Moment
goes_on cells None next = next cells
goes_on cells (Some m) next = m ∷ next m.cells

-- the moments of the steps, one after the other, from the cells as they stand
abbrev pub moments : Cast → List Cell → List Step → List Moment
moments cast cells [] = []
moments cast cells (step ∷ steps) = goes_on cells (moment_of cast cells step) (λ after. moments cast after steps)

-- cells as they are declared
abbrev pub held : List Declared → List Cell
held cells = map (λ c. record { label = c.label; value = c.value }) cells

abbrev pub start : Play → List Cell
start play = held play.cells

-- the run of a play
abbrev pub play_events : Play → List Moment
play_events play = moments (cast_of play) (start play) play.steps

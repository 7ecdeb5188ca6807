-- What an observer sees of a run.
--
-- It sees a step where the actor's label flows to its own. Of the others it sees releases past it alone:
-- copies by an actor that it does not see into a cell that it does see.
use Rattle.std.specs.Prelude.{ℤ, if◌then◌else◌, List, map, Option, Some, None}
use Rattle.std.specs.List.{filter_map}
use Rattle.flow_labels.specs.declared.Label.{Label}
use Rattle.flow_labels.specs.Flow.{seen}
use Rattle.labelled_heap.specs.declared.cells.Cell.{Cell}
use Rattle.play_script.specs.declared.Step.{Step}
use Rattle.play_script.specs.Script.{Play}
use Rattle.play_run.specs.Steps.{Event, Release, Copied, Moment, play_events}

-- an entry of the trace: the whole event of a step that is seen, or a release past the observer
pub data Entry : Type 0 where
  Seen : (event : Event) → Entry
  Released : (release : Release) → Entry

-- an entry of the agenda: the words of a step that is seen, or a release past the observer
pub data Item : Type 0 where
  Acts : (step : Step) → Item
  Releases : (release : Release) → Item

abbrev pub past : Label → Option Copied → Option Entry
past o None = None
past o (Some c) = if seen c.label o then Some (Released c.release) else None

-- what o sees of a moment
abbrev pub noted : Label → Moment → Option Entry
noted o m = if seen m.event.label o then Some (Seen m.event) else past o m.copied

abbrev pub item_of : Entry → Item
item_of (Seen e) = Acts e.step
item_of (Released r) = Releases r

-- what o sees of moments, in order
abbrev pub notes : Label → List Moment → List Entry
notes o ms = filter_map (noted o) ms

-- what o sees of the run of a play
abbrev pub trace : Label → Play → List Entry
trace o play = notes o (play_events play)

-- what is done before the eyes of o: the same entries, without how the steps that it sees went
abbrev pub agenda : Label → Play → List Item
agenda o play = map item_of (trace o play)

-- what o sees of a cell: its label, and its number where the label flows to o
pub record CellView : Type 0 where
  pub label : Label
  pub value : Option ℤ

abbrev pub cell_view : Label → Cell → CellView
cell_view o c = record { label = c.label; value = if seen c.label o then Some c.value else None }

abbrev pub view : Label → List Cell → List CellView
view o cells = map (cell_view o) cells

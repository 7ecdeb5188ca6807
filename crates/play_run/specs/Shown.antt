-- What the code knows of one step: the cells after it, and what it adds to the text.
use Rattle.std.specs.Prelude.{List, [], Option, Some, None}
use Rattle.flow_labels.specs.declared.Label.{Label}
use Rattle.labelled_heap.specs.declared.cells.Cell.{Cell}
use Rattle.play_script.specs.Pieces.{Word}
use Rattle.play_script.specs.Script.{Play}
use Rattle.play_run.specs.Steps.{Moment}
use Rattle.play_run.specs.Seen.{Entry, noted}
use Rattle.play_run.specs.Lines.{line_of}

abbrev pub cells_from : List Cell → Option Moment → List Cell
cells_from cells None = cells
cells_from cells (Some m) = m.cells

abbrev pub entry_text : Play → Option Entry → Word
entry_text play None = []
entry_text play (Some e) = line_of play e

abbrev pub text_of : Play → Label → Option Moment → Word
text_of play o None = []
text_of play o (Some m) = entry_text play (noted o m)

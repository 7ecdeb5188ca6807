-- the text of a step comes before the text of those after it
use Rattle.std.proofs.Common.{◌≡◌, ℕ, ◌+◌, ◌<◌, List, ◌∷◌, ◌++◌, length, drop, get_or, Option, Some, None, refl, sym, ap, ◌∙◌, append_assoc, add-one}
use Rattle.std.specs.List.{flat_map, cons_option}
use Rattle.std.proofs.Math.Seq.{drop-cons}
use Rattle.flow_labels.specs.declared.Label.{Label}
use Rattle.labelled_heap.specs.declared.cells.Cell.{Cell}
use Rattle.play_script.specs.declared.Step.{Step}
use Rattle.play_script.specs.Pieces.{Word}
use Rattle.play_script.specs.Script.{Play}
use Rattle.play_run.specs.Steps.{Moment, cast_of, moment_of, moments, goes_on}
use Rattle.play_run.specs.Seen.{Entry, noted, notes}
use Rattle.play_run.specs.Lines.{line_of}
use Rattle.play_run.specs.Shown.{cells_from, entry_text, text_of}

-- what is printed of moments
abbrev pub lines_of : Play → Label → List Moment → Word
lines_of play o ms = flat_map (line_of play) (notes o ms)

lines-cons_option : (play : Play) (e : Option Entry) (es : List Entry) → flat_map (line_of play) (cons_option e es) ≡ entry_text play e ++ flat_map (line_of play) es
lines-cons_option play None es = refl
lines-cons_option play (Some e) es = refl

lines_of-goes_on : (play : Play) (o : Label) (cells : List Cell) (m : Option Moment) (next : List Cell → List Moment) → lines_of play o (goes_on cells m next) ≡ text_of play o m ++ lines_of play o (next (cells_from cells m))
lines_of-goes_on play o cells None next = refl
lines_of-goes_on play o cells (Some m) next = lines-cons_option play (noted o m) (notes o (next m.cells))

-- the text of a step, and then that of the steps after it
step_text : (play : Play) (o : Label) (cells : List Cell) (steps : List Step) (i : ℕ) (s : Step) → i < length steps → lines_of play o (moments (cast_of play) cells (drop i steps)) ≡ text_of play o (moment_of (cast_of play) cells (get_or steps i s)) ++ lines_of play o (moments (cast_of play) (cells_from cells (moment_of (cast_of play) cells (get_or steps i s))) (drop (i + 1) steps))
step_text play o cells steps i s less =
    let split : drop i steps ≡ get_or steps i s ∷ drop (i + 1) steps = rw (add-one, drop-cons steps i s) refl in
    ap (λ rest. lines_of play o (moments (cast_of play) cells rest)) split
    ∙ lines_of-goes_on play o cells (moment_of (cast_of play) cells (get_or steps i s)) (λ after. moments (cast_of play) after (drop (i + 1) steps))

-- the text so far and what is still to come are the whole text, also after a step
pub whole_text : (play : Play) (o : Label) (cells after : List Cell) (steps : List Step) (i : ℕ) (s : Step) (text longer whole : Word) → i < length steps → longer ≡ text ++ text_of play o (moment_of (cast_of play) cells (get_or steps i s)) → after ≡ cells_from cells (moment_of (cast_of play) cells (get_or steps i s)) → text ++ lines_of play o (moments (cast_of play) cells (drop i steps)) ≡ whole → longer ++ lines_of play o (moments (cast_of play) after (drop (i + 1) steps)) ≡ whole
whole_text play o cells after steps i s text longer whole less texts cells_are so_far =
    (λ j. texts j ++ lines_of play o (moments (cast_of play) (cells_are j) (drop (i + 1) steps)))
    ∙ append_assoc text (text_of play o (moment_of (cast_of play) cells (get_or steps i s))) _
    ∙ ap (λ more. text ++ more) (sym (step_text play o cells steps i s less))
    ∙ so_far

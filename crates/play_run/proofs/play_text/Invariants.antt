use Rattle.std.proofs.Common.{◌≡◌, ◌++◌, drop}
use Rattle.std.specs.Prelude.{string_bytes}
use Rattle.play_script.specs.Script.{play_of}
use Rattle.play_run.specs.Steps.{cast_of, moments}
use Rattle.play_run.specs.Lines.{play_lines}
use Rattle.play_run.proofs.TextLemmas.{lines_of}
use Rattle.play_run.proofs.play_text.Given as goal

abbrev pub invariant-loop-step : goal.invariant-loop-step
invariant-loop-step l =
    string_bytes l.text ++ lines_of (play_of l.script) l.observer (moments (cast_of (play_of l.script)) l.cells (drop l.step-index l.step-items))
    ≡ play_lines (play_of l.script) l.observer

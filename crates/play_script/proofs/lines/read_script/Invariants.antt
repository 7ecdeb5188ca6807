use Rattle.std.proofs.Common.{◌≡◌, ◌≤◌, length}
use Rattle.play_script.specs.Pieces.{pieces}
use Rattle.play_script.specs.Script.{read_script, read_lines, play_of}
use Rattle.play_script.proofs.lines.read_script.Given as goal

abbrev pub invariant-loop-line : goal.invariant-loop-line
invariant-loop-line l = record {
  within : l.number ≤ 65537;
  so_far : read_script l.fn.text ≡ read_lines (play_of l.script) (pieces 10 l.rest) l.number;
}

abbrev pub decreases-loop-line : goal.decreases-loop-line
decreases-loop-line l = length l.rest

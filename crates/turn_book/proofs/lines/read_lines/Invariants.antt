use Rattle.std.proofs.Common.{◌≡◌, ◌≤◌, ◌+◌, [], length}
use Rattle.turn_book.specs.Reading.{turns_from}
use Rattle.turn_book.proofs.lines.read_lines.Given as goal

abbrev pub invariant-loop-line : goal.invariant-loop-line
invariant-loop-line l = record {
  so_far : turns_from l.turns.items [] l.rest l.number ≡ turns_from [] [] l.fn.text 2;
  few : length l.turns.items ≤ 1000000;
  counted : l.number + length l.rest ≤ length l.fn.text + 2;
}

abbrev pub decreases-loop-line : goal.decreases-loop-line
decreases-loop-line l = length l.rest

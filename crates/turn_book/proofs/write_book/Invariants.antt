use Rattle.std.proofs.Common.{◌≡◌, ◌++◌, length}
use Rattle.turn_book.specs.Book.{book, lines_text, stretches}
use Rattle.turn_book.proofs.write_book.Given as goal

abbrev pub invariant-loop-first : goal.invariant-loop-first
invariant-loop-first l = l.text.items ++ lines_text (stretches l.rest) ≡ book l.fn.t

abbrev pub decreases-loop-first : goal.decreases-loop-first
decreases-loop-first l = length l.rest

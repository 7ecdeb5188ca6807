-- What the code's values mean to the reading functions.
use Rattle.std.specs.Borrow.{Bor}
use Rattle.turn_book.specs.Book.{Text, Stretch}
use Rattle.turn_book.specs.declared.lines.Stretch.{Stretch as Line}

abbrev pub parts_of : Bor Text × Bor Text → Text × Text
parts_of p = (p.0.now, p.1.now)

abbrev pub stretch_seen : Line → Stretch
stretch_seen s = record { thread = s.thread; count = s.count }

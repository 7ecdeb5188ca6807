use Rattle.std.proofs.Common.{◌≤◌, length}
use Rattle.seat_host.specs.Books.{SaysSame}
use Rattle.seat_host.proofs.book.make_room.Given as goal

abbrev pub invariant-loop : goal.invariant-loop
invariant-loop l = (l.counter ≤ length l.table.items) × SaysSame l.initial.table.items l.table.items

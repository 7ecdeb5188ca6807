use Rattle.std.proofs.Common.{◌≡◌, ◌≤◌, []}
use Rattle.seat_host.specs.Law.{looked}
use Rattle.seat_host.specs.Seats.{IsIdle}
use Rattle.seat_host.proofs.seat_table.SeatTable.draw.Given as goal

abbrev pub invariant-loop : goal.invariant-loop
invariant-loop g l =
    (goal.iterator-loop g).can_next l.iterator' × (goal.iterator-loop g).is_finite l.iterator'
    × (l.pass.table_id ≡ l.initial.pass.table_id) × (l.pass.me ≡ (looked l.initial.pass.me.0 l.pass.me.0.drawn, [])) × (l.initial.pass.me.0.drawn ≤ l.pass.me.0.drawn)

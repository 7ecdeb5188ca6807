use Rattle.std.proofs.Common.{◌≡◌, ◌<◌, false, arith, ap, ◌∙◌}
use mathlib.Core.Option.{none}
use Rattle.atomic_table.specs.Table.{Me, step}
use Rattle.seat_host.specs.declared.law.View.{View}
use Rattle.seat_host.specs.Places.{Shared}
use Rattle.seat_host.proofs.Moves.{merges, learns}
use Rattle.seat_host.proofs.seat_table.SeatTable.join.Goals as goal

pub join_seat-requires : goal.join_seat-requires
join_seat-requires c =
    let i = c.requires.idle in
    let j = c.requires.other.1 in
    (c.requires.own, c.requires.other.0, j.0, omega (arith, c.args.self.now.counts.0), merges _ _ _ _ _ i.1 i.2 i.3 j.2 j.3)

pub load-requires : goal.load-requires
load-requires c =
    let e = c.join_seat.ensures in
    let idle : c.join_seat.new.seat.me.0.acts ≡ false = ap (λ (m : Me Shared View). m.0.acts) e.2 ∙ c.requires.idle.3 in
    (e.0 ∙ c.requires.own, omega (arith, c.args.self.now.counts.0), learns _ _ _ _ (step c.args.self.now.table.shared.table_id.slots 0 0 0 none) idle)

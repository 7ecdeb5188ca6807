use Rattle.std.proofs.Common.{◌≡◌, ◌<◌, arith, ap, sym, ◌∙◌}
use Rattle.atomic_table.specs.Table.{Me, step}
use mathlib.Core.Option.{none}
use Rattle.seat_host.specs.declared.law.View.{View}
use Rattle.seat_host.specs.Places.{Shared}
use Rattle.seat_host.proofs.Moves.{serves}
use Rattle.seat_host.proofs.seat_table.SeatTable.wait_turn.Goals as goal

pub load-serving-requires : goal.load-serving-requires
load-serving-requires g c =
    let i = c.loop.invariant in
    let w = c.requires.waits in (
      i.2 ∙ c.requires.own,
      omega (arith, c.args.self.now.counts.0),
      serves _ _ _ _ (step c.args.self.now.table.shared.table_id.slots 1 0 0 none) (ap (λ (m : Me Shared View). m.0.alive) i.3 ∙ w.1) (ap (λ (m : Me Shared View). m.0.waits) i.3 ∙ w.2) (ap (λ (m : Me Shared View). m.0.acts) i.3 ∙ w.3),
    )

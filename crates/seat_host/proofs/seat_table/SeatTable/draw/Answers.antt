use Rattle.std.proofs.Common.{◌≡◌, ◌<◌, false, arith, ap, sym, ◌∙◌}
use Rattle.atomic_table.specs.Table.{Me, step}
use mathlib.Core.Option.{none}
use Rattle.seat_host.specs.declared.law.View.{View}
use Rattle.seat_host.specs.Places.{Shared}
use Rattle.seat_host.proofs.Moves.{looks, draws}
use Rattle.seat_host.proofs.seat_table.SeatTable.draw.Goals as goal

pub load-next-requires : goal.load-next-requires
load-next-requires g c =
    let i = c.loop.invariant in
    (i.2 ∙ c.requires.own, omega (arith, c.args.self.now.counts.0), looks _ _ _ _ (step c.args.self.now.table.shared.table_id.slots 0 0 0 none))

pub compare_exchange-found-requires : goal.compare_exchange-found-requires
compare_exchange-found-requires g c =
    let i = c.loop.invariant in
    let e = c.load-next.ensures in
    let idle : c.load-next.new.seat.me.0.acts ≡ false = ap (λ (m : Me Shared View). m.0.acts) (e.2.1) ∙ ap (λ (m : Me Shared View). m.0.acts) i.3 ∙ c.requires.idle.3 in
    (e.0 ∙ i.2 ∙ c.requires.own, omega (arith, c.args.self.now.counts.0), draws _ _ _ _ _ idle)

use Rattle.std.proofs.Common.{◌≡◌, [], ◌∷◌, ap, sym, ◌∙◌}
use Rattle.atomic_table.specs.Table.{rest}
use Rattle.seat_host.specs.Places.{shared}
use Rattle.seat_host.proofs.seat_table.SeatTable.act.Goals as goal

pub slot_mut-book-requires : goal.slot_mut-book-requires
slot_mut-book-requires c = (c.requires.own, (shared c.args.pass.now.me.0.code c.args.pass.now.me.0.start c.args.pass.now.me.0.seen, c.requires.out ∙ ap (λ l. (0, shared c.args.pass.now.me.0.code c.args.pass.now.me.0.start c.args.pass.now.me.0.seen) ∷ rest l) (sym c.requires.out)))

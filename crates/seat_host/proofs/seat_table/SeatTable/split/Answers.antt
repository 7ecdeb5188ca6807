use Rattle.std.proofs.Common.{◌<◌, arith}
use Rattle.seat_host.proofs.Moves.{forks}
use Rattle.seat_host.proofs.seat_table.SeatTable.split.Goals as goal

pub split_seat-requires : goal.split_seat-requires
split_seat-requires c = (c.requires.own, omega (arith, c.args.self.now.counts.0), forks _ _ _)

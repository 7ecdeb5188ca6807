use Rattle.std.proofs.Common.{arith}
use Rattle.seat_host.proofs.seat_table.SeatTable.rest.Goals as goal

pub park-requires : goal.park-requires
park-requires g c = omega (arith, c.args.self.now.counts.0)

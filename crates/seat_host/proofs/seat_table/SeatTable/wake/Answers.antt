use Rattle.std.proofs.Common.{arith}
use Rattle.seat_host.proofs.seat_table.SeatTable.wake.Goals as goal

pub wake_all-requires : goal.wake_all-requires
wake_all-requires c = omega (arith, c.args.self.now.counts.0)

use Rattle.closed_run.proofs.NextLemmas.{found_round, found_first}
use Rattle.closed_run.proofs.next.next_ready.Goals as goal

pub returns-then-thread-count : goal.returns-then-thread-count
returns-then-thread-count c = found_round c.args.code.now c.args.world.now c.count_of-count.result c.args.thread c.first_ready.result c.count_of-count.ensures.count c.if-thread-count.true c.first_ready.ensures

pub returns-in-None : goal.returns-in-None
returns-in-None c = found_first c.args.code.now c.args.world.now c.count_of-count.result c.args.thread c.first_ready-2.result c.first_ready-in-None.result c.count_of-count.ensures.count c.first_ready-2.ensures c.in-None.is c.first_ready-in-None.ensures

use Rattle.std.proofs.Common.{arith}
use Rattle.source_walk_run.proofs.Counts.{count_is, count_past}
use Rattle.source_walk_run.proofs.tally.count.Goals as goal

pub returns-then-thread-len : goal.returns-then-thread-len
returns-then-thread-len c = count_is c.args.thread c.args.counts.now.items c.index_mut.result.now c.index_mut.ensures.value (omega arith)

pub returns-else-thread-len : goal.returns-else-thread-len
returns-else-thread-len c = count_past c.args.thread c.args.counts.now.items (omega arith)

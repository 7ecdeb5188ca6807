use Rattle.std.proofs.Common.{arith}
use Rattle.thread_host_run.proofs.Tellings.{set_at, put_past}
use Rattle.thread_host_run.proofs.ready_list.put.Goals as goal

pub returns-then-thread-len-clause-each : goal.returns-then-thread-len-clause-each
returns-then-thread-len-clause-each c = set_at c.args.prospects.now.items c.args.thread c.args.prospect

pub returns-else-thread-len-clause-each : goal.returns-else-thread-len-clause-each
returns-else-thread-len-clause-each c = put_past c.args.prospects.now.items c.args.thread c.args.prospect (omega arith)

use Rattle.std.proofs.Common.{length}
use Rattle.thread_host.proofs.whole_run.ended_so.Goals as goal

pub returns-clause-only : goal.returns-clause-only
returns-clause-only c = c.runs_end_in_one_way.ensures c.args.run.code c.args.run.world (length c.args.run.turns) c.args.turns c.args.how c.now-valid.ensures.valid c.requires

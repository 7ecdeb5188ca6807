use Rattle.std.proofs.Common.{sym, ◌∙◌}
use Rattle.closed_run.proofs.NextLemmas.{found_on}
use Rattle.closed_run.proofs.next.first_ready.Goals as goal

pub loop-thread-preserved : goal.loop-thread-preserved
loop-thread-preserved c = found_on c.args.code.now c.args.world.now c.args.from c.loop-thread.thread c.args.to c.loop-thread-test.true (sym c.ready.ensures ∙ c.if-ready.false) c.loop-thread.invariant

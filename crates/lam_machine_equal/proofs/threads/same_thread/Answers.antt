use Rattle.std.proofs.Common.{ap}
use Rattle.thread_steps.specs.Threads.{Thread}
use Rattle.lam_machine_equal.proofs.ThreadParts.{thread_same}
use Rattle.lam_machine_equal.proofs.threads.same_thread.Goals as goal

pub returns-then-same_standing : goal.returns-then-same_standing
returns-then-same_standing c = (
  λ t. thread_same c.args.a.now c.args.b.now (c.same_standing.ensures.0 c.if-same_standing.true) (c.same_end.ensures.0 t),
  λ e. c.same_end.ensures.1 (ap (λ (t : Thread). t.result) e),
)

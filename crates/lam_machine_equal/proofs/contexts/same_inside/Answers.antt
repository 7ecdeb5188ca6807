use Rattle.std.proofs.Common.{ap}
use Rattle.thread_steps.specs.Threads.{Inside}
use Rattle.lam_machine_equal.proofs.ThreadParts.{inside_same}
use Rattle.lam_machine_equal.proofs.contexts.same_inside.Goals as goal

pub returns-then-same_calls : goal.returns-then-same_calls
returns-then-same_calls c =
    let p = c.same_calls.ensures.0 c.if-same_calls.true in (
      λ t. inside_same c.args.a.now.inside c.args.b.now.inside p.0 p.1 (c.same_raised.ensures.0 t),
      λ e. c.same_raised.ensures.1 (ap (λ (i : Inside). i.fault) e),
    )

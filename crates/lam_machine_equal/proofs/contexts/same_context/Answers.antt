use Rattle.std.proofs.Common.{ap}
use Rattle.thread_steps.specs.Threads.{Context}
use Rattle.lam_machine_equal.proofs.ThreadParts.{context_same}
use Rattle.lam_machine_equal.proofs.contexts.same_context.Goals as goal

pub returns-then-same_bounds : goal.returns-then-same_bounds
returns-then-same_bounds c =
    let p = c.same_bounds.ensures.0 c.if-same_bounds.true in (
      λ t. let q = c.same_rest.ensures.0 t in context_same c.args.a.now c.args.b.now p.0 p.1.0 p.1.1.0 p.1.1.1 q.0 q.1,
      λ e. c.same_rest.ensures.1 (ap (λ (k : Context). k.held) e, ap (λ (k : Context). k.inside) e),
    )

use Rattle.std.proofs.Common.{ap}
use Rattle.thread_steps.specs.Threads.{Context}
use Rattle.thread_core_state.proofs.Ends.{reversed_same}
use Rattle.lam_machine_equal.proofs.contexts.same_callers.Goals as goal

pub returns : goal.returns
returns c =
    reversed_same c.same_frames.result c.a.inside.callers.items c.b.inside.callers.items c.as_slice.result.now c.as_slice-2.result.now
    c.args.a.now.inside.callers c.args.b.now.inside.callers c.same_frames.ensures c.as_slice.ensures.value c.as_slice-2.ensures.value
    (ap (λ (k : Context). k.inside.callers) c.a.view_is) (ap (λ (k : Context). k.inside.callers) c.b.view_is)

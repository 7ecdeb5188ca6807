use Rattle.std.proofs.Common.{subst, sym}
use Rattle.thread_core_stretches.specs.Stretches.{StretchStands}
use Rattle.thread_host_run.specs.Runs.{Ran}
use Rattle.thread_host_run.proofs.run.Run.check_in.Goals as goal

pub invariant_of-self-2 : goal.invariant_of-self-2
invariant_of-self-2 c =
    let old = c.self.inside in
    let stands = subst (λ (r : Ran). StretchStands r.code c.args.stretch) (sym c.self.view_is) c.requires.stands in
    c.in_ok-check_in.ensures.course old.code old.start stands c.self.invariant

use Rattle.std.proofs.Common.{sym, ◌∙◌, subst}
use Rattle.lam_bytecode.specs.Codes.{CodeTree}
use Rattle.lam_machine_runs.specs.Ends.{SomeReady}
use Rattle.thread_host_run.specs.Courses.{Progress}
use Rattle.thread_host_run.proofs.ListedReady.{some_listed}
use Rattle.thread_host.proofs.shared.Shared.picked.Goals as goal

pub picked-requires-clause-some : goal.picked-requires-clause-some
picked-requires-clause-some g c =
    let own = g.J.Origin.code in
    let p = c.self.inside.course in
    let some = subst (λ (code : CodeTree). SomeReady code p.world) c.requires.of (subst (λ (q : Progress). SomeReady c.args.code.now q.world) (sym c.self.view_is) c.requires.some) in
    some_listed own p.world c.as_slice.result.now (c.as_slice.ensures.value ∙ c.self.invariant.1.threads_are) some

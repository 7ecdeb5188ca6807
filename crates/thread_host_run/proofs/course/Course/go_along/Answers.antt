use Rattle.std.proofs.Common.{subst}
use Rattle.thread_host_run.specs.Courses.{Progress}
use Rattle.thread_host_run.specs.Stretched.{WentOn}
use Rattle.thread_host_run.proofs.GoingLemmas.{went_along}
use Rattle.thread_host_run.proofs.course.Course.go_along.Goals as goal

pub returns-clause-ok : goal.returns-clause-ok
returns-clause-ok c =
    let old = c.self.inside in
    let code = c.args.code.now in
    let n = c.in_ok-taken.taken in
    let now : Progress = record { turns = c.go_along.new.turns.items; world = c.go_along.new.world } in
    subst (λ (p : Progress). WentOn code c.args.thread n p now) c.self.view_is
    (went_along code c.args.thread n old.turns.items c.go_along.new.turns.items old.world c.go_along.new.world c.in_ok-taken.ensures.ok c.in_ok-taken.ensures.turns)

use Rattle.std.proofs.Common.{ap, ◌∙◌, subst}
use Rattle.thread_host_run.specs.Courses.{Progress, ran_to}
use Rattle.thread_host_run.specs.Runs.{Ran, HasTurn, with_turn}
use Rattle.thread_host_run.proofs.CourseLemmas.{has_turn}
use Rattle.thread_host_run.proofs.RunLemmas.{sound_now}
use Rattle.thread_host_run.proofs.run.Run.go.Goals as goal

pub go-requires-clause-sound : goal.go-requires-clause-sound
go-requires-clause-sound c = let old = c.self.inside in sound_now (ran_to old.code old.start old.course) c.self.invariant

pub invariant_of-self-2 : goal.invariant_of-self-2
invariant_of-self-2 c = c.in_ok-taken.ensures.course c.self.inside.start c.self.invariant

pub returns-clause-ok : goal.returns-clause-ok
returns-clause-ok c =
    let old = c.self.inside in
    let t = c.args.thread in
    let after = c.go.new.self.world in
    let quiet = c.let_go_taken.result in
    let ok = c.in_ok-taken.ensures.ok in (
      subst (λ (r : Ran). HasTurn r.code t r.world quiet after) c.self.view_is (has_turn old.code t old.course.world c.in_ok-taken.taken after quiet ok.0 c.let_go_taken.ensures),
      ap (λ (p : Progress). ran_to old.code old.start p) ok.1 ∙ ap (λ (r : Ran). with_turn r t after) c.self.view_is,
    )

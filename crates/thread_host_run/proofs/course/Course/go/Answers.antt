use Rattle.std.proofs.Common.{ℕ, List, ◌<◌, length, subst, sym}
use Rattle.thread_host_run.specs.Courses.{Progress, IsCourse}
use Rattle.thread_host_run.proofs.CourseLemmas.{took_turn, course_grows}
use Rattle.lam_machine.specs.Worlds.{IsSound}
use Rattle.thread_host_run.proofs.course.Course.go.Goals as goal

pub go_turn-requires-clause-sound : goal.go_turn-requires-clause-sound
go_turn-requires-clause-sound c = subst (λ (p : Progress). IsSound c.args.code.now p.world) (sym c.self.view_is) c.requires.sound

pub returns-clause-course : goal.returns-clause-course
returns-clause-course c = λ start whole.
    let code = c.args.code.now in
    let old = c.self.inside in
    let before : Progress = record { turns = old.turns.items; world = old.world } in
    let room = subst (λ (p : Progress). length p.turns < 1000000) (sym c.self.view_is) c.requires.room in
    let turn = took_turn code c.args.thread old.world c.in_ok-taken.taken c.go_turn.new.world c.in_ok-taken.ensures.turn in
    let grows = course_grows code start before c.args.thread turn.0 c.go_turn.new.world (subst (IsCourse code start) (sym c.self.view_is) whole) room turn.1 in
    subst (λ (ts : List ℕ). IsCourse code start (record { turns = ts; world = c.go_turn.new.world })) (sym c.in_ok-taken.ensures.turns) grows

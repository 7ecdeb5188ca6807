use Rattle.std.proofs.Common.{ℕ, List, ◌<◌, length, subst, sym}
use Rattle.thread_host_run.specs.Courses.{Progress, IsCourse}
use Rattle.thread_host_run.proofs.CourseLemmas.{course_grows}
use Rattle.lam_machine.specs.Worlds.{IsSound}
use Rattle.thread_host_run.proofs.course.Course.turn.Goals as goal

pub take_turn-requires-clause-sound : goal.take_turn-requires-clause-sound
take_turn-requires-clause-sound c = subst (λ (p : Progress). IsSound c.args.code.now p.world) (sym c.self.view_is) c.requires.sound

pub returns-clause-course : goal.returns-clause-course
returns-clause-course c = λ start whole.
    let code = c.args.code.now in
    let old = c.self.inside in
    let before : Progress = record { turns = old.turns.items; world = old.world } in
    let room = subst (λ (p : Progress). length p.turns < 1000000) (sym c.self.view_is) c.requires.room in
    let grows = course_grows code start before c.args.thread c.in_ok-event.event c.take_turn.new.world (subst (IsCourse code start) (sym c.self.view_is) whole) room c.in_ok-event.ensures.turn in
    subst (λ (ts : List ℕ). IsCourse code start (record { turns = ts; world = c.take_turn.new.world })) (sym c.in_ok-event.ensures.turns) grows

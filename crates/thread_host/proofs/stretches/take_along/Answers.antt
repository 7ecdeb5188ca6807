use Rattle.std.proofs.Common.{arith}
use Rattle.thread_host_run.proofs.CourseLemmas.{course_sound}
use Rattle.thread_host.proofs.Keeping.{shared_along, went_nowhere, within_budget}
use Rattle.thread_host.proofs.stretches.take_along.Goals as goal

pub go_ready-requires-clause-sound : goal.go_ready-requires-clause-sound
go_ready-requires-clause-sound g c = course_sound c.args.code.now g.J.Origin.start c.args.course.now c.requires.shared.course

pub returns-clause-shared : goal.returns-clause-shared
returns-clause-shared g c =
    let within = within_budget c.args.course.now c.in_ok-taken.taken c.args.most c.args.budget c.in_ok-taken.ensures.few c.requires.within in
    shared_along (g.K.Keeps.AreKept c.args.who.now) c.leaves_private.ensures c.args.code.now g.J.Origin.start c.args.budget c.args.course.now c.args.kept.now c.args.thread c.in_ok-taken.taken c.go_ready.new.course c.in_ok-taken.ensures.ok within c.requires.few c.requires.shared

pub returns-clause-ok : goal.returns-clause-ok
returns-clause-ok g c =
    record {
      ready = c.requires.ready;
      count = c.in_ok-taken.taken;
      within = within_budget c.args.course.now c.in_ok-taken.taken c.args.most c.args.budget c.in_ok-taken.ensures.few c.requires.within;
      went = c.in_ok-taken.ensures.ok;
    }

pub returns-clause-none : goal.returns-clause-none
returns-clause-none g c none = went_nowhere c.args.code.now c.args.thread c.in_ok-taken.taken c.args.course.now c.go_ready.new.course none c.in_ok-taken.ensures.ok

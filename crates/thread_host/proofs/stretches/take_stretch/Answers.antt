use Rattle.std.proofs.Common.{subst, sym, false}
use Rattle.thread_host_run.specs.Courses.{Progress}
use Rattle.thread_host_run.proofs.CourseLemmas.{course_sound}
use Rattle.thread_host.specs.Sharing.{IsShared}
use Rattle.thread_host.proofs.Keeping.{shared_stretch}
use Rattle.thread_host.proofs.stretches.take_stretch.Goals as goal

pub check_in_ready-requires-clause-sound : goal.check_in_ready-requires-clause-sound
check_in_ready-requires-clause-sound g c = course_sound c.args.code.now g.J.Origin.start c.args.course.now c.requires.shared.course

pub returns-clause-shared : goal.returns-clause-shared
returns-clause-shared g c =
    let kept = g.K.Keeps.AreKept c.args.who.now in
    let code = c.args.code.now in
    let start = g.J.Origin.start in
    let more = shared_stretch kept c.leaves_private.ensures code start c.args.budget c.args.course.now c.args.kept.now c.args.stretch c.requires.stands c.requires.keeps c.requires.few c.requires.shared in
    subst (λ (p : Progress). IsShared kept code start c.args.budget p false c.args.kept.now) (sym c.in_ok-check_in_ready.ensures.ok) more

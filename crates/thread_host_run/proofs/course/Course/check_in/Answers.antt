use Rattle.std.proofs.Common.{subst, sym}
use Rattle.thread_host_run.specs.Courses.{Progress, IsCourse}
use Rattle.thread_host_run.specs.Stretched.{StretchFits}
use Rattle.thread_host_run.proofs.StretchLemmas.{course_checked}
use Rattle.thread_host_run.proofs.course.Course.check_in.Goals as goal

pub returns-clause-course : goal.returns-clause-course
returns-clause-course c = λ code start stands whole.
    let old = c.self.inside in
    let before : Progress = record { turns = old.turns.items; world = old.world } in
    let fits = subst (λ (p : Progress). StretchFits p c.args.stretch) (sym c.self.view_is) c.requires in
    let checked = course_checked code start before c.args.stretch stands fits (subst (IsCourse code start) (sym c.self.view_is) whole) in
    subst (IsCourse code start) (λ i. record { turns = sym c.in_ok-check_in.ensures.turns i; world = sym c.in_ok-check_in.ensures.world i }) checked

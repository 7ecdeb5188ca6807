use Rattle.std.proofs.Common.{sym, subst}
use Rattle.std.specs.Prelude.{IfOk}
use Rattle.lam_machine_terms.specs.Worlds.{World}
use Rattle.lam_machine_terms.specs.Turns.{moments}
use Rattle.thread_host_run.specs.Courses.{IsCourse}
use Rattle.thread_host.proofs.workers.by_workers.Goals as goal

pub returns-clause-course : goal.returns-clause-course
returns-clause-course g c =
    subst (λ (start : World). IfOk c.finish.result (λ e. IsCourse c.args.code.now start e.course)) (sym c.requires.of.1) c.finish.ensures.course

pub returns-clause-kept : goal.returns-clause-kept
returns-clause-kept g c =
    subst (λ (start : World). IfOk c.finish.result (λ e. g.K.Keeps.AreKept c.args.who.now (moments c.args.code.now e.course.turns start) e.kept)) (sym c.requires.of.1) c.finish.ensures.kept

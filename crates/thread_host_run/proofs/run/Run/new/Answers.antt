use Rattle.std.proofs.Common.{subst, sym}
use Rattle.thread_host_run.specs.Courses.{IsCourse}
use Rattle.thread_host_run.proofs.RunLemmas.{whole_opened}
use Rattle.thread_host_run.proofs.run.Run.new.Goals as goal

pub invariant_of-result : goal.invariant_of-result
invariant_of-result c = subst (IsCourse c.args.code c.args.start) (sym c.in-Ok.ensures) (whole_opened c.args.code c.args.start c.requires.sound)

use Rattle.std.proofs.Common.{length, subst, sym}
use Rattle.lam_machine_runs.specs.Ends.{HasEnded}
use Rattle.thread_host_run.specs.Runs.{Ran}
use Rattle.thread_host.proofs.whole_run.put_together.Goals as goal

pub ended_so-requires : goal.ended_so-requires
ended_so-requires g c = subst (λ (r : Ran). HasEnded r.code r.world (length r.turns) c.args.turns c.args.ending.how) (sym c.of-run.ensures) c.requires.how

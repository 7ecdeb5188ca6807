use Rattle.std.proofs.Common.{subst}
use Rattle.lam_machine_terms.specs.Valid.{IsValid}
use Rattle.lam_machine.specs.Worlds.{IsSound}
use Rattle.thread_host_run.specs.Courses.{ran_to}
use Rattle.thread_host_run.specs.Runs.{Ran}
use Rattle.thread_host_run.proofs.RunLemmas.{sound_now, valid_now}
use Rattle.thread_host_run.proofs.run.Run.now.Goals as goal

pub returns-clause-valid : goal.returns-clause-valid
returns-clause-valid c =
    let run = c.self.inside in
    subst (λ (r : Ran). IsValid r.world) c.self.view_is (valid_now (ran_to run.code run.start run.course) c.self.invariant)

pub returns-clause-sound : goal.returns-clause-sound
returns-clause-sound c =
    let run = c.self.inside in
    subst (λ (r : Ran). IsSound r.code r.world) c.self.view_is (sound_now (ran_to run.code run.start run.course) c.self.invariant)

use Rattle.std.proofs.Common.{subst, sym}
use Rattle.lam_machine.specs.Worlds.{IsSound}
use Rattle.thread_host_run.specs.Courses.{ran_to}
use Rattle.thread_host_run.proofs.RunLemmas.{sound_now}
use Rattle.thread_host_run.proofs.run.Run.ready.Goals as goal

pub ready-requires : goal.ready-requires
ready-requires c =
    let run = c.self.inside in
    record { sound = subst (IsSound run.code) (sym c.world.ensures) (sound_now (ran_to run.code run.start run.course) c.self.invariant) }

use Rattle.thread_host_run.specs.Courses.{ran_to}
use Rattle.thread_host_run.proofs.RunLemmas.{sound_now}
use Rattle.thread_host_run.proofs.run.Run.turn.Goals as goal

pub turn-requires-clause-sound : goal.turn-requires-clause-sound
turn-requires-clause-sound c = let old = c.self.inside in sound_now (ran_to old.code old.start old.course) c.self.invariant

pub invariant_of-self-2 : goal.invariant_of-self-2
invariant_of-self-2 c = c.in_ok-event.ensures.course c.self.inside.start c.self.invariant

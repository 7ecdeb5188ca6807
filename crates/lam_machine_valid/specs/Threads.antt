-- The threads of valid worlds are threads as the machine's code has them.
use Rattle.std.specs.Prelude.{◌≡◌, ℕ, Some}
use Rattle.thread_steps.specs.Threads.{Phase, Thread}
use Rattle.thread_core_state.specs.Stacked as in_code
use Rattle.thread_core_state.specs.Stacked.{IsThread}
use Rattle.lam_machine_laws.specs.Worlds.{World, thread_at}
use Rattle.lam_machine_laws.specs.Turns as in_turns
use Rattle.lam_machine_laws.specs.Valid.{IsValid}

pub record ValidThreadsAreThreads : Type 0 where
  -- each keeps what every thread in code keeps
  pub all : (w : World) → IsValid w → (t : ℕ) (th : Thread) → thread_at w t ≡ Some th → IsThread th
  -- which phase is that of a first context is said for turns and for threads in code, and is the same
  pub first : (p : Phase) → in_turns.is_bottom p ≡ in_code.is_bottom p

-- Private turns of one thread in a row, taken in place.
use Rattle.std.specs.Prelude.{◌≡◌, ℕ, Some}
use Rattle.lam_bytecode.specs.Codes.{CodeTree}
use Rattle.thread_steps.specs.Threads.{Thread}
use Rattle.thread_core_stretches.specs.Stretches.{WentPrivately}
use Rattle.lam_machine_terms.specs.Worlds.{World, thread_at, with_thread}

-- the thread of a number took so many private turns; all else stays
pub record WentIn (code : CodeTree) (t n : ℕ) (before after : World) : Type 0 where
  pub from : Thread
  pub to : Thread
  pub at : thread_at before t ≡ Some from
  pub went : WentPrivately code from n to
  pub leaves : after ≡ with_thread before t to

-- Whether a thread is ready, by how it stands and by what its ask waits for.
use Rattle.std.specs.Prelude.{ℕ, Bool, true, false, not}
use Rattle.monitor_core.specs.Held.{is_free}
use Rattle.thread_steps.specs.Next.{Standing, is_private, is_shared, is_stuck, is_ended}
use Rattle.thread_core_stretches.specs.Turning.{Awaited, nobody, a_monitor, a_thread}
use Rattle.lam_machine_terms.specs.Worlds.{World, thread_at}
use Rattle.lam_machine_terms.specs.Turns.{is_living}

-- whether another thread holds the monitor, and whether the thread lives
abbrev pub waits_on : World → ℕ → Awaited → Bool
waits_on w t nobody = false
waits_on w t (a_monitor n) = not (is_free w.monitors n t)
waits_on w t (a_thread u) = is_living (thread_at w u)

abbrev pub ready_by : Standing → Bool → Bool
ready_by is_private waits = true
ready_by is_shared waits = not waits
ready_by is_stuck waits = false
ready_by is_ended waits = false

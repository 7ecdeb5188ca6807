-- What the next ask of each thread waits for, with monitors by number, and for which threads a turn may have changed that.
use Rattle.std.specs.Prelude.{◌≡◌, ℕ, Bool, true, false, nat_eq, List, Option, Some, None, length, slice_get}
use Rattle.lam_value.specs.declared.names.Name.{Name}
use Rattle.std.specs.FinMap.{get}
use Rattle.lam_bytecode.specs.Codes.{CodeTree}
use Rattle.thread_steps.specs.Threads.{Thread}
use Rattle.thread_core_stretches.specs.Turning.{Awaited, nobody, a_monitor, a_thread, awaited_of}
use Rattle.lam_machine_terms.specs.Worlds.{World, thread_at}
use Rattle.lam_machine_terms.specs.Turns as turns
use Rattle.thread_host_run.specs.declared.waits.Awaits.{Awaits}
use Rattle.thread_host_run.specs.declared.waits.Awaits.TheVariants.{Nobody, Monitor, End, Unknown}
use Rattle.thread_host_run.specs.declared.waits.Prospect.{Prospect}
use Rattle.thread_host_run.specs.declared.waits.Touched.{Touched}
use Rattle.thread_host_run.specs.declared.waits.Touched.TheVariants.{OneMonitor, Everything}

-- the most monitors that have a number
abbrev pub most_names : ℕ
most_names = 8192

-- what the next ask of a thread waits for
abbrev pub awaited_at : CodeTree → Option Thread → Awaited
awaited_at code None = nobody
awaited_at code (Some th) = awaited_of code th

-- it waits for this, where the monitors' numbers are their places among these names
abbrev pub IsAwaited : List Name → Awaits → Awaited → Type 0
IsAwaited names Nobody a = a ≡ nobody
IsAwaited names (Monitor k) a = (n : Name) × (slice_get names k ≡ Some n) × (a ≡ a_monitor n)
IsAwaited names (End u) a = a ≡ a_thread u
IsAwaited names Unknown a = Unit {0}

-- each name keeps its place
abbrev pub Extends : List Name → List Name → Type 0
Extends ns ms = (k : ℕ) (n : Name) → slice_get ns k ≡ Some n → slice_get ms k ≡ Some n

-- what the next ask of a thread waits for, and whether the thread is ready
pub record Tells (code : CodeTree) (w : World) (names : List Name) (u : ℕ) (p : Prospect) : Type 0 where
  pub awaits : IsAwaited names p.awaits (awaited_at code (thread_at w u))
  pub ready : p.ready ≡ turns.ready code w u

-- of each thread
pub record AllTell (code : CodeTree) (w : World) (names : List Name) (ps : List Prospect) : Type 0 where
  pub count : length ps ≡ length w.threads
  pub each : (u : ℕ) (p : Prospect) → slice_get ps u ≡ Some p → Tells code w names u p

-- ---- after a turn

abbrev pub is_number : Option ℕ → ℕ → Bool
is_number None k = false
is_number (Some n) k = nat_eq n k

abbrev pub is_monitor : Touched → ℕ → Bool
is_monitor (OneMonitor number holder) k = is_number number k
is_monitor Everything k = true

abbrev pub is_everything : Touched → Bool
is_everything (OneMonitor number holder) = false
is_everything Everything = true

-- whether the turn of another thread may have changed that a thread is ready, by what the thread's next ask waits for
abbrev pub is_stale : Touched → Awaits → Bool
is_stale t Nobody = false
is_stale t (Monitor k) = is_monitor t k
is_stale t (End u) = is_everything t
is_stale t Unknown = true

-- as `Tells`, but for whether the thread is ready where that may have changed
pub record TellsBut (touched : Touched) (code : CodeTree) (w : World) (names : List Name) (u : ℕ) (p : Prospect) : Type 0 where
  pub awaits : IsAwaited names p.awaits (awaited_at code (thread_at w u))
  pub ready : is_stale touched p.awaits ≡ false → p.ready ≡ turns.ready code w u

-- who holds the one monitor that was touched
abbrev pub IsHeldSo : List Name → World → Touched → Type 0
IsHeldSo names w Everything = Unit {0}
IsHeldSo names w (OneMonitor None holder) = Unit {0}
IsHeldSo names w (OneMonitor (Some k) holder) = (n : Name) × (slice_get names k ≡ Some n) × (holder ≡ get w.monitors n)

-- where the monitor of a name was touched, that of each number with this name was
abbrev pub Touches : List Name → Option Name → Touched → Type 0
Touches names name touched = (k : ℕ) (n : Name) → slice_get names k ≡ Some n → name ≡ Some n → is_monitor touched k ≡ true

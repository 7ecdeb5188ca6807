-- Why turns are no run.
use Rattle.std.specs.Prelude.{◌≡◌, ◌↔◌, ℕ, List, Option, Some, None}
use Rattle.lam_bytecode.specs.Codes.{CodeTree}
use Rattle.lam_machine_terms.specs.Worlds.{World}
use Rattle.lam_machine_terms.specs.Turns.{IsRun}
use Rattle.lam_machine_runs.specs.Stops.{NotReady, stopped_at}
use Rattle.lam_machine_replay.specs.declared.fault.RunFault.{RunFault}
use Rattle.lam_machine_replay.specs.declared.fault.RunFault.TheVariants as fault

-- a fault is the turn at which they stop, or want of memory
abbrev pub IsStop : RunFault → Option NotReady → Type 0
IsStop (fault.NotReady k t) stop = stop ≡ Some (record { turn = k; thread = t })
IsStop fault.NoMemory stop = Unit {0}

-- turns are a run exactly where they do not stop
abbrev pub RunsAreWhole : CodeTree → Type 0
RunsAreWhole code = (turns : List ℕ) (w : World) → IsRun code turns w ↔ (stopped_at code turns w ≡ None)

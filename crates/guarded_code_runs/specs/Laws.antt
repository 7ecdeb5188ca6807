-- What is proved of runs of guarded code, for every code and every interleaving.
use Rattle.std.specs.Prelude.{◌≡◌, ℕ, List, Some}
use Rattle.std.specs.List.{AllByRecursion}
use Rattle.lam_bytecode.specs.Codes.{CodeTree, IsCode}
use Rattle.lam_bytecode.specs.declared.op.Op.{Op}
use Rattle.thread_steps.specs.Threads.{Context}
use Rattle.thread_steps.specs.Next.{next_by, next_of}
use Rattle.lam_machine_valid.specs.Worlds.{World}
use Rattle.lam_machine_valid.specs.Turns.{Moment, step, moments, replay}
use Rattle.lam_machine_valid.specs.Valid.{IsValid}
use Rattle.lam_machine_valid.specs.LamMachineLawsLaws.{IsActing}
use Rattle.guarded_code_threads.specs.Breaks.{IsGuarded}
use Rattle.guarded_code_threads.specs.Accesses.{StandsAt, Finds, IsAccess, accessed}
use Rattle.guarded_code_runs.specs.Worlds.{AreDescribed, AreAtEntries, IsSound}

-- threads at entries are described
abbrev pub EntriesAreDescribed : CodeTree → Type 0
EntriesAreDescribed code = IsCode code → IsGuarded code → (w : World) → AreAtEntries code w → AreDescribed code w

-- a turn of any thread keeps that all threads are, with those that it spawns
abbrev pub TurnsKeep : CodeTree → Type 0
TurnsKeep code = IsCode code → IsGuarded code → (w : World) (t : ℕ) (m : Moment) → AreDescribed code w → step code w t ≡ Some m → AreDescribed code m.world

-- so they are in every world of a run
abbrev pub RunsKeep : CodeTree → Type 0
RunsKeep code =
    IsCode code → IsGuarded code → (w : World) (turns : List ℕ) → AreDescribed code w →
    AllByRecursion (λ (m : Moment). AreDescribed code m.world) (moments code turns w) × AreDescribed code (replay code turns w)

-- after any turns from a world whose threads are at entries, an access finds a reference that is not null and whose rule
-- holds
abbrev pub AccessesFindInRuns : CodeTree → Type 0
AccessesFindInRuns code =
    IsCode code → IsGuarded code → (w : World) (turns : List ℕ) → AreAtEntries code w →
    (t : ℕ) (c : Context) (rest : List Context) (op : Op) → IsActing (replay code turns w) t c rest → StandsAt code c op → Finds c.label op c.inside.frame.stack

-- so no test is made there: it asks or raises Index, unless an operand is of another kind than the access takes
abbrev pub NoSecondTestInRuns : CodeTree → Type 0
NoSecondTestInRuns code =
    IsCode code → IsGuarded code → (w : World) (turns : List ℕ) → AreAtEntries code w →
    (t : ℕ) (c : Context) (rest : List Context) (op : Op) → IsActing (replay code turns w) t c rest → StandsAt code c op → IsAccess op →
    next_of code c ≡ next_by code c.phase c.inside (accessed op c.inside.frame.stack)

-- ---- worlds from which runs are sound

-- a valid world whose threads are at entries of guarded code is one
abbrev pub EntriesAreSound : CodeTree → Type 0
EntriesAreSound code = IsCode code → IsGuarded code → (w : World) → IsValid w → AreAtEntries code w → IsSound code w

-- the world that a turn of any thread leaves is one, where that before it was
abbrev pub TurnsKeepSound : CodeTree → Type 0
TurnsKeepSound code = (w : World) (t : ℕ) (m : Moment) → IsSound code w → step code w t ≡ Some m → IsSound code m.world

-- so is every world of a run from one
abbrev pub RunsKeepSound : CodeTree → Type 0
RunsKeepSound code =
    (w : World) (turns : List ℕ) → IsSound code w → AllByRecursion (λ (m : Moment). IsSound code m.world) (moments code turns w) × IsSound code (replay code turns w)

-- and in it an access finds a reference that is not null and whose rule holds
abbrev pub SoundAccessesFind : CodeTree → Type 0
SoundAccessesFind code =
    (w : World) → IsSound code w →
    (t : ℕ) (c : Context) (rest : List Context) (op : Op) → IsActing w t c rest → StandsAt code c op → Finds c.label op c.inside.frame.stack

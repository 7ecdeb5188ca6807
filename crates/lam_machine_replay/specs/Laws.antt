-- What the turns of a valid world find, and what stays in each run.
use Rattle.std.specs.Prelude.{◌≡◌, ℕ, List}
use Rattle.std.specs.List.{AllByRecursion}
use Rattle.lam_bytecode.specs.Codes.{CodeTree, IsCode}
use Rattle.lam_machine_terms.specs.Worlds.{World}
use Rattle.lam_machine_terms.specs.Turns.{Moment, moments}
use Rattle.lam_machine_terms.specs.Valid.{IsValid}
use Rattle.lam_machine.specs.Machine.{CopiesLive}

-- what a turn of a valid world copies lives
abbrev pub CopiesAreLiving : CodeTree → Type 0
CopiesAreLiving code = IsCode code → (w : World) (t : ℕ) → IsValid w → CopiesLive code w t

-- what is public at the start is public in the world of each moment
abbrev pub PublicStayInRuns : CodeTree → Type 0
PublicStayInRuns code = (turns : List ℕ) (start : World) → AllByRecursion (λ (m : Moment). m.world.public ≡ start.public) (moments code turns start)

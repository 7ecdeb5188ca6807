-- Each turn of the machine keeps a forest of files and directories, and so does every run.
use Rattle.std.specs.Prelude.{◌≡◌, ℕ, List, Some}
use Rattle.std.specs.List.{AllByRecursion}
use Rattle.lam_bytecode.specs.Codes.{CodeTree, IsCode}
use Rattle.lam_machine_terms.specs.Worlds.{World}
use Rattle.lam_machine_terms.specs.Turns.{Moment, step, moments, replay}
use Rattle.lam_machine_terms.specs.Valid.{AreSoundStores, IsValid}
use Rattle.world_forest.specs.Forest.{IsForest}

-- every turn from a world with sound stores
abbrev pub StepsKeepForests : CodeTree → Type 0
StepsKeepForests code = (w : World) (t : ℕ) (m : Moment) → AreSoundStores w → IsForest w.files → step code w t ≡ Some m → IsForest m.world.files

-- so from a valid world whose files are a forest they are one after each turn of every run
abbrev pub RunsKeepForests : CodeTree → Type 0
RunsKeepForests code =
    IsCode code → (w : World) (turns : List ℕ) → IsValid w → IsForest w.files →
    AllByRecursion (λ (m : Moment). IsForest m.world.files) (moments code turns w) × IsForest (replay code turns w).files

-- What holds of every world that a document gives.
use Rattle.std.specs.Prelude.{◌≡◌, ◌<◌, ◌≤◌, length, Ok}
use Rattle.std.specs.List.{AllByRecursion}
use Rattle.serde_json.specs.Data.{Data}
use Rattle.flow_labels.specs.TwoLists.{Text}
use Rattle.lam_bytecode.specs.Codes.{CodeTree}
use Rattle.lam_machine_terms.specs.Worlds.{World}
use Rattle.lam_machine_terms.specs.Valid.{IsValid}
use Rattle.world_doc_terms.specs.Entries.{most_starting}
use Rattle.world_doc_terms.specs.Start.{world_of, start_of}
use Rattle.world_doc_laws.specs.Standing.{StandsAtEntry}

-- a world from which a run of the code starts: it is valid, and its threads stand at entries and are one to 64
pub record IsStartOf (code : CodeTree) (w : World) : Type 0 where
  pub valid : IsValid w
  pub entries : AllByRecursion (StandsAtEntry code) w.threads
  pub some : 0 < length w.threads
  pub few : length w.threads ≤ most_starting

-- the world of a document is one
abbrev pub WorldsStart : CodeTree → Type 0
WorldsStart code = (d : Data) (w : World) → world_of d code ≡ Ok w → IsStartOf code w

-- and so is the world of a text
abbrev pub TextsStart : CodeTree → Type 0
TextsStart code = (text : Text) (w : World) → start_of text code ≡ Ok w → IsStartOf code w

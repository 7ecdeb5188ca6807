-- The files and directories with which a run begins are a forest.
use Rattle.std.specs.Prelude.{◌≡◌, Ok}
use Rattle.serde_json.specs.Data.{Data}
use Rattle.flow_labels.specs.TwoLists.{Text}
use Rattle.lam_bytecode.specs.Codes.{CodeTree}
use Rattle.lam_machine_terms.specs.Worlds.{World}
use Rattle.world_doc_terms.specs.Start.{world_of, start_of}
use Rattle.world_forest.specs.Forest.{IsForest}

-- those of the world of a document, whatever its version
abbrev pub WorldsAreForests : CodeTree → Type 0
WorldsAreForests code = (d : Data) (w : World) → world_of d code ≡ Ok w → IsForest w.files

-- and those of the world of a text
abbrev pub TextsAreForests : CodeTree → Type 0
TextsAreForests code = (text : Text) (w : World) → start_of text code ≡ Ok w → IsForest w.files

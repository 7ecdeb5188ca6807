-- What holds of the files and directories at the start and at the end of a run.
use Rattle.std.specs.Prelude.{◌≡◌, ◌≤◌, ℕ, List, length, Ok}
use Rattle.flow_labels.specs.TwoLists.{Text}
use Rattle.lam_value.specs.declared.names.Name.{Name}
use Rattle.lam_value.specs.Homes.{IsAboveZero}
use Rattle.labelled_files.specs.Trees.{Tree, most_bytes, bytes_at}
use Rattle.lam_bytecode.specs.Codes.{CodeTree, IsCode}
use Rattle.lam_machine_terms.specs.Worlds.{World}
use Rattle.lam_machine_terms.specs.Turns.{replay}
use Rattle.lam_machine_terms.specs.Valid.{IsValid}
use Rattle.world_doc_terms.specs.Start.{start_of}
use Rattle.world_forest.specs.Forest.{IsForest}
use Rattle.world_save_laws.specs.TreeLaws.{IsWhole}

-- no file is longer than a file may be, and what is counted was made
pub record IsSmall (t : Tree) : Type 0 where
  pub few : (n : Name) → length (bytes_at t n) ≤ most_bytes
  pub above : IsAboveZero t.counts

abbrev pub StartsAreSmall : CodeTree → Type 0
StartsAreSmall code = (text : Text) (w : World) → start_of text code ≡ Ok w → IsSmall w.files

abbrev pub EndsAreWhole : CodeTree → Type 0
EndsAreWhole code = IsCode code → (w : World) (turns : List ℕ) → IsValid w → IsForest w.files → IsSmall w.files → IsWhole (replay code turns w).files × IsSmall (replay code turns w).files

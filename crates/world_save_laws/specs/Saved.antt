-- What is read of the text of a saved world.
use Rattle.std.specs.Prelude.{◌≡◌, ℕ, List, Ok}
use Rattle.flow_labels.specs.TwoLists.{Text}
use Rattle.lam_value.specs.Homes.{IsAboveZero}
use Rattle.labelled_files.specs.Trees.{Tree}
use Rattle.world_save_terms.specs.Items.{HoldBytes}
use Rattle.lam_bytecode.specs.Codes.{CodeTree, IsCode}
use Rattle.lam_machine_terms.specs.Worlds.{World}
use Rattle.lam_machine_terms.specs.Turns.{replay}
use Rattle.world_doc_terms.specs.Start.{start_of}
use Rattle.world_save_laws.specs.TreeLaws.{IsWhole}
use Rattle.world_save_laws.specs.Next.{GoesOn}
use Rattle.world_save_files.specs.Saved.{IsTextOf, IsSavedText}

-- files and directories that are read again as they are
pub record AreSavable (t : Tree) : Type 0 where
  pub whole : IsWhole t
  pub bytes : HoldBytes t
  pub above : IsAboveZero t.counts

-- a text of them, and of the document of a start, gives a start that goes on from them
abbrev pub SavedTextsAreRead : CodeTree → Type 0
SavedTextsAreRead code =
    (old text : Text) (w : World) (t : Tree) → start_of old code ≡ Ok w → AreSavable t → IsTextOf w.names w.public t old text → (v : World) × ((start_of text code ≡ Ok v) × GoesOn w t v)

-- so does one that is saved at the end of a run
abbrev pub NextWorldsAreRead : CodeTree → Type 0
NextWorldsAreRead code =
    IsCode code → (old text : Text) (items : ℕ) (w : World) (turns : List ℕ) → start_of old code ≡ Ok w → IsSavedText w.names w.public (replay code turns w).files old text items →
    (v : World) × ((start_of text code ≡ Ok v) × GoesOn w (replay code turns w).files v)

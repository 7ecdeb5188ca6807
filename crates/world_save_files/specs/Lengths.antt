-- All texts of a value in the compact form have one length, and so have all texts that can be saved of the same files.
use Rattle.std.specs.Prelude.{◌≡◌, ◌≤◌, List, length}
use Rattle.serde_json.specs.Data.{Data, depth}
use Rattle.serde_json.specs.Read.{max_depth}
use Rattle.flow_labels.specs.TwoLists.{Text}
use Rattle.capabilities.specs.declared.Caps.{Caps}
use Rattle.labelled_files.specs.Trees.{Tree}
use Rattle.world_save_terms.specs.Compact.{IsCompact}
use Rattle.world_save_files.specs.Saved.{IsTextOf}

-- a value that nests no deeper than is read
abbrev pub CompactLengthsAreOne : Type 0
CompactLengthsAreOne = (d : Data) (text other : Text) → depth d ≤ max_depth → IsCompact d text → IsCompact d other → length text ≡ length other

-- so a text is too long exactly where each is
abbrev pub SavedLengthsAreOne : Type 0
SavedLengthsAreOne = (names : List Text) (public : Caps) (t : Tree) (old text other : Text) → IsTextOf names public t old text → IsTextOf names public t old other → length text ≡ length other

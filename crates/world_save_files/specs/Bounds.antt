-- A text that is not too long, and one that is.
use Rattle.std.specs.Prelude.{◌≡◌, ◌≤◌, ◌<◌, ℕ, List, map, length, IsPermutation, IsSorted}
use Rattle.serde_json.specs.Data.{Data}
use Rattle.flow_labels.specs.TwoLists.{Text}
use Rattle.lam_value.specs.Homes.{Home}
use Rattle.world_save_terms.specs.Rows.{Row, row_of, row_cmp}
use Rattle.world_save_terms.specs.Document.{most_document}
use Rattle.world_save_items.specs.Measures.{capped}
use Rattle.world_save_text.specs.declared.document.Contents.{Contents}
use Rattle.world_save_text.specs.Texts.{text_with}
use Rattle.world_save_files.specs.declared.document.SaveFault.{SaveFault}
use Rattle.world_save_files.specs.declared.document.SaveFault.TheVariants.{Unnamed, BadText, TooBig, NoMemory}

-- the rows of homes, in order
pub record AreSortedRows (c : Contents) (homes : List (Home × ℕ)) (rows : List Row) : Type 0 where
  pub same : IsPermutation (map (row_of c.names.now) homes) rows
  pub ordered : IsSorted row_cmp rows

-- the text has the rows in order, and is no longer than a document may be
pub record IsBounded (c : Contents) (homes : List (Home × ℕ)) (text : Text) : Type 0 where
  pub rows : List Row
  pub sorted : AreSortedRows c homes rows
  pub is : (pipes threads : Data) → text ≡ text_with c rows pipes threads
  pub fits : length text ≤ most_document

-- the text that has the rows in order would be longer
pub record IsLong (c : Contents) (homes : List (Home × ℕ)) (bytes : ℕ) : Type 0 where
  pub rows : List Row
  pub sorted : AreSortedRows c homes rows
  pub long : (pipes threads : Data) → most_document < length (text_with c rows pipes threads)
  pub counted : (pipes threads : Data) → bytes ≡ capped (length (text_with c rows pipes threads))

abbrev pub IsUnbounded : Contents → List (Home × ℕ) → SaveFault → Type 0
IsUnbounded c homes (Unnamed tag) = ⊥
IsUnbounded c homes (BadText item) = ⊥
IsUnbounded c homes (TooBig bytes) = IsLong c homes bytes
IsUnbounded c homes NoMemory = Unit {0}

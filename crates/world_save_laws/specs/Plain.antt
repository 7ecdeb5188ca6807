-- Documents whose texts are read as they are.
--
-- The lists `counts`, `tags` and `tree` are written in the compact form, of which JSON reads the value again where it has
-- no number but whole ones of 64 bits, and the members of objects in the order of their names. What is taken from an older
-- document is read again by what its writer said.
use Rattle.std.specs.Prelude.{◌≡◌, ◌≤◌, Some}
use Rattle.json.specs.Tree.{HasNumbers}
use Rattle.serde_json.specs.Data.{Data, depth}
use Rattle.serde_json.specs.Read.{of_json, max_depth, read}
use Rattle.serde_json.specs.Written.{outline}
use Rattle.flow_labels.specs.TwoLists.{Text}
use Rattle.world_save_terms.specs.Document.{Parts, list_data, document, Spells}

-- the value as JSON has texts for its numbers, and reads as the value
pub record IsPlain (d : Data) : Type 0 where
  pub reads : of_json (outline d) ≡ Some d
  pub numbers : HasNumbers (outline d)

pub record IsReadable (p : Parts) : Type 0 where
  pub counts : IsPlain (list_data p.counts)
  pub tags : IsPlain (list_data p.tags)
  pub tree : IsPlain (list_data p.tree)
  pub shallow : depth (document p) ≤ max_depth

abbrev pub SpelledDocumentsAreRead : Type 0
SpelledDocumentsAreRead = (p : Parts) (text : Text) → Spells p text → IsReadable p → read text ≡ Some (document p)

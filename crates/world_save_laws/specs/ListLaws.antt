-- What is read of the lists of a saved world's document.
use Rattle.std.specs.Prelude.{◌≡◌, ◌≤◌, ◌<◌, ℕ, IsTrue, List, length, map, Some, Ok, codes}
use Rattle.std.specs.List.{Contains}
use Rattle.std.specs.FinMap.{contains_key}
use Rattle.serde_json.specs.Data.{Data, string, Members, depth}
use Rattle.serde_json.specs.Find.{get_member}
use Rattle.serde_json.specs.View.{items_of as data_list}
use Rattle.hex.specs.Hex.{encode_lower}
use Rattle.flow_labels.specs.Names.{AreNames}
use Rattle.flow_labels.specs.TwoLists.{Text}
use Rattle.flow_labels.specs.Reading.{HasNames}
use Rattle.flow_labels.specs.declared.Label.{Label}
use Rattle.capabilities.specs.Kinds.{public_of}
use Rattle.lam_value.specs.Homes.{Home, Counts, count_in, IsAboveZero, AreWithin}
use Rattle.labelled_files.specs.Trees.{Tree, most_files, public_home, bytes_at}
use Rattle.lam_machine_terms.specs.Limits.{most_tags}
use Rattle.world_doc_terms.specs.declared.version.Version.TheVariants.{Three}
use Rattle.world_doc_terms.specs.Tags.{FirstTags, tags_in}
use Rattle.world_doc_terms.specs.Stores.{a_text}
use Rattle.world_doc_terms.specs.Numbered.{as_hex}
use Rattle.world_doc_terms.specs.SavedItems.{counts_of, SaysCount, SaysItem, SayAll}
use Rattle.world_save_terms.specs.Items.{Item, items_of}
use Rattle.world_save_terms.specs.Rows.{Row, AreRows}
use Rattle.world_save_terms.specs.Document.{tags_from, row_data, item_data, list_data}
use Rattle.world_save_laws.specs.Plain.{IsPlain}
use Rattle.world_save_laws.specs.TreeLaws.{saved}

-- a list that JSON reads again from its compact text, and whose values hold no others
pub record IsFlatList (ds : List Data) : Type 0 where
  pub plain : IsPlain (list_data ds)
  pub flat : depth (list_data ds) ≤ 2

-- ---- tags

-- the names of tags and their kinds, as a document may have them
pub record AreTags (tags : FirstTags) : Type 0 where
  pub names : AreNames tags.names
  pub each : length tags.kinds ≡ length tags.names
  pub few : length tags.names ≤ most_tags

-- the list of the names, with the kinds by what is public
abbrev pub tags_list : FirstTags → List Data
tags_list tags = tags_from (public_of tags.kinds) 0 tags.names

abbrev pub TagsAreRead : Type 0
TagsAreRead = (tags : FirstTags) → AreTags tags → ((ms : Members) → get_member (codes "tags") ms ≡ Some (list_data (tags_list tags)) → tags_in Three ms ≡ Ok tags) × IsFlatList (tags_list tags)

-- ---- counters

-- each tag of the label has a name
abbrev pub IsNamed : List Text → Label → Type 0
IsNamed names l = HasNames names l.s × HasNames names l.i

-- counters that a document can say: of homes with named labels, from 1 to the limit, and that of the root among them
pub record AreCountable (names : List Text) (counts : Counts) : Type 0 where
  pub above : IsAboveZero counts
  pub within : AreWithin most_files counts
  pub root : 0 < count_in counts public_home
  pub named : (h : Home) → IsTrue (contains_key counts h) → IsNamed names h.maker × IsNamed names h.own

pub record AreSaid (names : List Text) (counts : Counts) (rows : List Row) : Type 0 where
  pub homes : List (Home × ℕ)
  pub say : SayAll (SaysCount names) (data_list (map row_data rows)) homes
  pub made : counts_of homes ≡ Ok counts
  pub flat : IsFlatList (map row_data rows)

abbrev pub CountersAreSaid : Type 0
CountersAreSaid = (names : List Text) (counts : Counts) (rows : List Row) → AreNames names → AreCountable names counts → AreRows names counts rows → AreSaid names counts rows

-- ---- files and directories

-- items that a document can say: with named labels, and numbers and bytes that are read again
pub record AreSayable (names : List Text) (t : Tree) : Type 0 where
  pub named : (i : Item) → Contains (items_of t) i → IsNamed names i.target.name.own × IsNamed names i.target.name.maker
  pub few : (i : Item) → Contains (items_of t) i → i.target.name.n < most_files
  pub spelled : (i : Item) → Contains (items_of t) i → as_hex (string (encode_lower (bytes_at t i.target.name))) ≡ Some (a_text (bytes_at t i.target.name))

abbrev pub ItemsAreSaid : Type 0
ItemsAreSaid =
    (names : List Text) (t : Tree) → AreNames names → AreSayable names t →
    SayAll (SaysItem names) (data_list (map (item_data names t) (items_of t))) (map (saved t) (items_of t)) × IsFlatList (map (item_data names t) (items_of t))

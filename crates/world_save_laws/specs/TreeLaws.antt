-- The items of a saved world make its files and directories again.
use Rattle.std.specs.Prelude.{◌≡◌, ◌≤◌, length, map, Ok}
use Rattle.lam_value.specs.declared.names.Name.{Name}
use Rattle.labelled_files.specs.declared.directory.EntryKind.{EntryKind}
use Rattle.labelled_files.specs.declared.directory.EntryKind.TheVariants.{File, Dir}
use Rattle.labelled_files.specs.Trees.{Tree, most_bytes, root_alone, bytes_at, IsSound}
use Rattle.world_doc_terms.specs.Stores.{Content, a_dir, a_text}
use Rattle.world_doc_terms.specs.Numbered.{root_counted}
use Rattle.world_doc_terms.specs.SavedItems.{SavedItem, with_saved_items}
use Rattle.world_forest.specs.Forest.{IsForest}
use Rattle.world_save_terms.specs.Items.{Item, items_of}
use Rattle.world_save_laws.specs.Reached.{HoldsReached}

-- what a document says of the content of a file or directory
abbrev pub content_at : Tree → Name → EntryKind → Content
content_at t n File = a_text (bytes_at t n)
content_at t n Dir = a_dir

-- an item, as a document says it
abbrev pub saved : Tree → Item → SavedItem
saved t i = record { path = i.path; own = i.target.name.own; maker = i.target.name.maker; number = i.target.name.n; content = content_at t i.target.name i.target.kind }

-- what holds of files and directories at the end of a run
pub record IsWhole (t : Tree) : Type 0 where
  pub sound : IsSound t
  pub forest : IsForest t
  pub root : t.root ≡ root_alone.root
  pub few : (n : Name) → length (bytes_at t n) ≤ most_bytes

abbrev pub TreesAreMadeAgain : Type 0
TreesAreMadeAgain = (t : Tree) → IsWhole t → (u : Tree) × ((with_saved_items 0 (root_counted t.counts) (map (saved t) (items_of t)) ≡ Ok u) × HoldsReached t u)

-- What an item of the tree has, and where it stands; and how many files and directories each home has made.
use Rattle.std.specs.Prelude.{ℕ, List, Ok, codes}
use Rattle.std.specs.Borrow.{Bor}
use Rattle.std.specs.FinMap.{insert}
use Rattle.serde_json.specs.Data.{Data, Members}
use Rattle.serde_json.specs.Find.{get_member, as_array, as_object}
use Rattle.lam_value.specs.declared.names.Name.{Name}
use Rattle.lam_value.specs.Homes.{Home, Counts, home_of}
use Rattle.flow_labels.specs.TwoLists.{Text}
use Rattle.labelled_files.specs.declared.files.FileFault.{FileFault}
use Rattle.labelled_files.specs.declared.files.FileFault.TheVariants as file
use Rattle.labelled_files.specs.Trees.{Tree, first_fault, place_fault}
use Rattle.world_doc_terms.specs.declared.version.Version.{Version}
use Rattle.world_doc_terms.specs.declared.version.Version.TheVariants.{One, Two, Three}
use Rattle.world_doc_terms.specs.declared.breaks.WorldBreak.TheVariants.{BadPath}
use Rattle.world_doc_terms.specs.Breaks.{Reading, ◌>>=◌, formed, member_as}
use Rattle.world_doc_terms.specs.Tags.{label_as, label_in}
use Rattle.world_doc_terms.specs.Stores as stores
use Rattle.world_doc_terms.specs.Stores.{Spot, a_dir, a_text, content_of, with_content, unless_full, spot_of, with_item, with_items}
use Rattle.world_doc_terms.specs.Numbered.{next_in, new_home, with_count_item, counts_in, hex_content_of, name_in, with_named, with_numbered_item, with_numbered_items}
use Rattle.world_doc_stores.specs.declared.fault.WorldFault.{WorldFault}
use Rattle.world_doc_stores.specs.declared.fault.WorldFault.TheVariants.{Broken, NoMemory}
use Rattle.world_doc_stores.specs.declared.numbered.Saved.{Saved}
use Rattle.world_doc_stores.specs.declared.numbered.Saved.TheVariants as saved
use Rattle.world_doc_stores.specs.declared.tree.Content.{Content}
use Rattle.world_doc_stores.specs.declared.tree.Content.TheVariants.{Dir, Text as Bytes}

abbrev pub spot : Name → Text → Spot
spot dir text = record { dir = dir; text = text }

abbrev pub spot_seen : Bor Name × Bor Text → Spot
spot_seen p = spot p.0.now p.1.now

abbrev pub content_seen : Content → stores.Content
content_seen Dir = a_dir
content_seen (Bytes s) = a_text s.now

-- want of memory stays, and every other fault is one of the item's path
abbrev pub path_fault : FileFault → ℕ → WorldFault
path_fault file.NoMemory index = NoMemory
path_fault _ index = Broken (BadPath index)

-- the label and the content of an item, put at its place
abbrev pub filled : List Text → ℕ → Tree → Members → Spot → Reading Tree
filled names index t ms s =
    label_in names ms
    >>= λ l. content_of (get_member (codes "dir") ms) (get_member (codes "text") ms)
    >>= λ content. unless_full index (first_fault t s.dir s.text (home_of l l)) (with_content t s (home_of l l) content)

-- what an item has, put at a path
abbrev pub placed : List Text → ℕ → Tree → Members → Text → Reading Tree
placed names index t ms path = spot_of index t path >>= filled names index t ms

-- an item of a list, put at its path
abbrev pub item_in : List Text → ℕ → Tree → Data → Reading Tree
item_in names index t d = formed (codes "tree") (as_object d) >>= with_item names index t

-- the tree of a document, put into what is there
abbrev pub tree_onto : List Text → Tree → Members → Reading Tree
tree_onto names t ms = member_as (codes "tree") as_array ms >>= with_items names 0 t

-- ---- version 3

abbrev pub saved_seen : Saved → stores.Content
saved_seen saved.Dir = a_dir
saved_seen (saved.Bytes v) = a_text v.items

-- files whose homes have made so many
abbrev pub counted_as : Tree → Counts → Tree
counted_as t counts = record t { counts = counts }

-- how many a home has made that no item before names
abbrev pub with_next : Counts → Home → Members → Reading Counts
with_next counts home ms = new_home counts home >>= λ home. next_in ms >>= λ n. Ok (insert counts home n)

-- a counter of a list
abbrev pub count_in_item : List Text → Counts → Data → Reading Counts
count_in_item names counts d = formed (codes "counts") (as_object d) >>= with_count_item names counts

-- the counters of a document, put into what is there
abbrev pub counts_onto : List Text → Tree → Members → Reading Tree
counts_onto names t ms = counts_in names ms >>= λ counts. Ok (counted_as t counts)

-- the labels, the number and the content of an item, put at its place
abbrev pub numbered_at : List Text → ℕ → Tree → Members → Spot → Reading Tree
numbered_at names index t ms s =
    label_in names ms
    >>= λ own. label_as (codes "maker") names ms
    >>= λ maker. name_in t (home_of maker own) ms
    >>= λ name. hex_content_of (get_member (codes "dir") ms) (get_member (codes "hex") ms)
    >>= λ content. unless_full index (place_fault t s.dir s.text) (with_named t s name content)

-- what an item says, put at a path
abbrev pub numbered_placed : List Text → ℕ → Tree → Members → Text → Reading Tree
numbered_placed names index t ms path = spot_of index t path >>= numbered_at names index t ms

-- an item of a list, put at its path
abbrev pub numbered_item_in : List Text → ℕ → Tree → Data → Reading Tree
numbered_item_in names index t d = formed (codes "tree") (as_object d) >>= with_numbered_item names index t

-- the tree of a document, put into what is there
abbrev pub numbered_onto : List Text → Tree → Members → Reading Tree
numbered_onto names t ms = counts_onto names t ms >>= λ u. member_as (codes "tree") as_array ms >>= with_numbered_items names 0 u

-- ---- each version

abbrev pub files_onto : Version → List Text → Tree → Members → Reading Tree
files_onto One names t ms = tree_onto names t ms
files_onto Two names t ms = tree_onto names t ms
files_onto Three names t ms = numbered_onto names t ms

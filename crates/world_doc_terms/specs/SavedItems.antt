-- The counters and the items of a document of version 3 apart from its text: what each says, and the files and directories
-- that they make, one after another. So who writes such a document can say what is read of it.
use Rattle.std.specs.Prelude.{◌≡◌, ℕ, suc, List, [], ◌∷◌, Option, Some, Ok, Err, codes}
use Rattle.std.specs.FinMap.{empty, insert}
use Rattle.serde_json.specs.Data.{Data, Items, no_items, item, Members}
use Rattle.serde_json.specs.Find.{get_member, as_str, as_array, as_object}
use Rattle.flow_labels.specs.TwoLists.{Text}
use Rattle.flow_labels.specs.declared.Label.{Label}
use Rattle.lam_value.specs.declared.names.Name.{Name}
use Rattle.lam_value.specs.Homes.{Home, Counts, home_of, name_of}
use Rattle.labelled_files.specs.Trees.{Tree, place_fault}
use Rattle.world_doc_terms.specs.Breaks.{Reading, ◌>>=◌, only_if, formed, member_as}
use Rattle.world_doc_terms.specs.Tags.{label_as, label_in}
use Rattle.world_doc_terms.specs.Stores.{Content, spot_of, unless_full}
use Rattle.world_doc_terms.specs.Numbered.{whole, next_in, new_home, with_root, root_counted, hex_content_of, is_open, with_named}

-- ---- counters

-- these homes have made so many: each stands once, and the root's among them
abbrev pub counted_items : Counts → List (Home × ℕ) → Reading Counts
counted_items counts [] = Ok counts
counted_items counts (e ∷ es) = new_home counts e.0 >>= λ home. counted_items (insert counts home e.1) es

abbrev pub counts_of : List (Home × ℕ) → Reading Counts
counts_of es = counted_items empty es >>= with_root

-- ---- items

pub record SavedItem : Type 0 where
  pub path : Text
  pub own : Label
  pub maker : Label
  pub number : ℕ
  pub content : Content

abbrev pub item_name : SavedItem → Name
item_name it = name_of (home_of it.maker it.own) it.number

-- an item stands at its path, where nothing stands, and has its name, which nothing has
abbrev pub with_saved_item : ℕ → Tree → SavedItem → Reading Tree
with_saved_item index t it =
    spot_of index t it.path
    >>= λ s. formed (codes "number") (only_if (is_open t (item_name it)) (item_name it))
    >>= λ name. unless_full index (place_fault t s.dir s.text) (with_named t s name it.content)

abbrev pub with_saved_items : ℕ → Tree → List SavedItem → Reading Tree
with_saved_items index t [] = Ok t
with_saved_items index t (it ∷ its) = with_saved_item index t it >>= λ u. with_saved_items (suc index) u its

-- the files and directories of these counters and items
abbrev pub files_of_items : List (Home × ℕ) → List SavedItem → Reading Tree
files_of_items es its = counts_of es >>= λ counts. with_saved_items 0 (root_counted counts) its

-- ---- what a document says

pub record SaysCount (names : List Text) (ms : Members) (e : Home × ℕ) : Type 0 where
  pub maker : label_as (codes "maker") names ms ≡ Ok e.0.maker
  pub own : label_as (codes "own") names ms ≡ Ok e.0.own
  pub number : next_in ms ≡ Ok e.1

pub record SaysItem (names : List Text) (ms : Members) (it : SavedItem) : Type 0 where
  pub path : member_as (codes "path") as_str ms ≡ Ok it.path
  pub own : label_in names ms ≡ Ok it.own
  pub maker : label_as (codes "maker") names ms ≡ Ok it.maker
  pub number : member_as (codes "number") whole ms ≡ Ok it.number
  pub content : hex_content_of (get_member (codes "dir") ms) (get_member (codes "hex") ms) ≡ Ok it.content

-- a list of objects, one for each of these in their order
abbrev pub SayAll : {A : Type 0} → (Members → A → Type 0) → Items → List A → Type 0
SayAll Says no_items [] = Unit {0}
SayAll Says (item d ds) (x ∷ xs) = ((ms : Members) × (as_object d ≡ Some ms) × Says ms x) × SayAll Says ds xs
SayAll Says ds xs = ⊥

-- the members `counts` and `tree` say these counters and items
pub record SaysFiles (names : List Text) (ms : Members) (es : List (Home × ℕ)) (its : List SavedItem) : Type 0 where
  pub counts : (ds : Items) × (member_as (codes "counts") as_array ms ≡ Ok ds) × SayAll (SaysCount names) ds es
  pub tree : (ds : Items) × (member_as (codes "tree") as_array ms ≡ Ok ds) × SayAll (SaysItem names) ds its

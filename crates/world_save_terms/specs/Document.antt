-- The document of a saved world, which is of version 3, and its text.
--
-- Members stand in byte order of their names, with no white space: `counts`, `pipes`, `tags`, `threads`, `tree`,
-- `version`. The files and directories are those at the end of a run; `tags` says the names and kinds that it began with,
-- and `pipes` and `threads` are the values of the document that it began with.
use Rattle.std.specs.Prelude.{◌≡◌, ℕ, suc, Bool, true, false, cond, List, [], ◌∷◌, ◌++◌, map, codes, refl}
use Rattle.std.specs.FinSet.{contains}
use Rattle.json.specs.Print.{quoted, escape_byte}
use Rattle.serde_json.specs.Data.{Data, boolean, number, string, array, object, unsigned, Members, no_members, member}
use Rattle.serde_json.specs.View.{items_of as data_list}
use Rattle.serde_json.specs.Written.{comma_if, compact_text}
use Rattle.std.specs.Fmt.{digits}
use Rattle.hex.specs.Hex.{encode_lower}
use Rattle.world_save_terms.specs.Compact.{IsCompact}
use Rattle.flow_labels.specs.TwoLists.{Text}
use Rattle.flow_labels.specs.declared.Label.{Label}
use Rattle.flow_labels.specs.LabelText.{label_text}
use Rattle.capabilities.specs.declared.Caps.{Caps}
use Rattle.capabilities.specs.declared.kinds.TagKind.{TagKind}
use Rattle.capabilities.specs.declared.kinds.TagKind.TheVariants.{Read, Export, Integrity}
use Rattle.labelled_files.specs.Name.{Name}
use Rattle.labelled_files.specs.declared.directory.EntryKind.{EntryKind}
use Rattle.labelled_files.specs.declared.directory.EntryKind.TheVariants.{File, Dir}
use Rattle.labelled_files.specs.Trees.{Tree, bytes_at}
use Rattle.world_save_terms.specs.Items.{Item, items_of}
use Rattle.world_save_terms.specs.Rows.{Row}

-- ---- tags

-- the kind that makes public what is public
abbrev pub kind_at : Caps → ℕ → TagKind
kind_at public t = cond (contains public.plus t) Export (cond (contains public.minus t) Integrity Read)

abbrev pub kind_word : TagKind → Text
kind_word Read = codes "read"
kind_word Export = codes "export"
kind_word Integrity = codes "integrity"

abbrev pub tag_data : Text → TagKind → Data
tag_data name kind = object (member (codes "kind") (string (kind_word kind)) (member (codes "name") (string name) no_members))

-- the names of tags, the first of them that of a number
abbrev pub tags_from : Caps → ℕ → List Text → List Data
tags_from public t [] = []
tags_from public t (name ∷ names) = tag_data name (kind_at public t) ∷ tags_from public (suc t) names

-- ---- counters

abbrev pub row_data : Row → Data
row_data r = object (member (codes "maker") (string r.maker) (member (codes "next") (number (unsigned r.next)) (member (codes "own") (string r.own) no_members)))

-- ---- files and directories

abbrev pub label_data : List Text → Label → Data
label_data names l = string (label_text names l)

-- what is said of each: its label, its maker's, its number and its path
abbrev pub place_members : List Text → Text → Name → Members
place_members names path n =
    member (codes "label") (label_data names n.own) (member (codes "maker") (label_data names n.maker) (member (codes "number") (number (unsigned n.n)) (member (codes "path") (string path) no_members)))

-- and whether it is a directory, or the bytes of a file
abbrev pub members_by : List Text → Tree → Text → Name → EntryKind → Members
members_by names t path n File = member (codes "hex") (string (encode_lower (bytes_at t n))) (place_members names path n)
members_by names t path n Dir = member (codes "dir") (boolean true) (place_members names path n)

abbrev pub item_data : List Text → Tree → Item → Data
item_data names t i = object (members_by names t i.path i.target.name i.target.kind)

-- ---- the document

-- the lists of the document, and what it takes from an older one
pub record Parts : Type 0 where
  pub counts : List Data
  pub tags : List Data
  pub tree : List Data
  pub pipes : Data
  pub threads : Data

abbrev pub version_data : Data
version_data = number (unsigned 3)

abbrev pub list_data : List Data → Data
list_data ds = array (data_list ds)

abbrev pub document : Parts → Data
document p =
    object (member (codes "counts") (list_data p.counts) (member (codes "pipes") p.pipes (member (codes "tags") (list_data p.tags) (member (codes "threads") p.threads (member (codes "tree") (list_data p.tree) (member (codes "version") version_data no_members))))))

abbrev pub parts_of : List Text → Caps → Tree → List Row → Data → Data → Parts
parts_of names public t rows pipes threads =
    record { counts = map row_data rows; tags = tags_from public 0 names; tree = map (item_data names t) (items_of t); pipes = pipes; threads = threads }

-- ---- its text

-- a member whose value has a text, and what stands after it
abbrev pub member_text : Bool → Text → Text → Text → Text
member_text later name value rest = comma_if later ++ (quoted name ++ 58 ∷ (value ++ rest))

abbrev pub list_text : List Data → Text
list_text ds = compact_text (list_data ds)

-- the text of a document, where those of its `pipes` and its `threads` are these
abbrev pub text_of : Parts → Text → Text → Text
text_of p pipes threads =
    123 ∷ member_text false (codes "counts") (list_text p.counts) (member_text true (codes "pipes") pipes (member_text true (codes "tags") (list_text p.tags) (member_text true (codes "threads") threads (member_text true (codes "tree") (list_text p.tree) (member_text true (codes "version") (compact_text version_data) (125 ∷ []))))))

-- a text of a document in the compact form; where its `pipes` or its `threads` have numbers that are no whole ones, there are several
pub record Spells (p : Parts) (text : Text) : Type 0 where
  pub pipes : Text
  pub threads : Text
  pub pipes_are : IsCompact p.pipes pipes
  pub threads_are : IsCompact p.threads threads
  pub text_is : text ≡ text_of p pipes threads

-- a document has no more bytes than this
abbrev pub most_document : ℕ
most_document = 16777216

-- ---- worked examples

-- where no number is left to the writer, it is the compact text of the one value
one_value : (p : Parts) → text_of p (compact_text p.pipes) (compact_text p.threads) ≡ compact_text (document p)
one_value p = refl

a_tag : compact_text (tag_data (codes "a") Read) ≡ codes "{\"kind\":\"read\",\"name\":\"a\"}"
unfolding escape_byte
a_tag = refl

a_row : compact_text (row_data (record { maker = codes "{a}/{}"; own = codes "{}/{}"; next = 7 })) ≡ codes "{\"maker\":\"{a}/{}\",\"next\":7,\"own\":\"{}/{}\"}"
unfolding escape_byte digits
a_row = refl

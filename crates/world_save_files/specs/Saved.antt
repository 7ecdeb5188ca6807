-- The document that is saved of files and directories, and why there is none.
use Rattle.std.specs.Prelude.{◌≡◌, ◌≤◌, ◌<◌, ℕ, true, List, length, Option, Some, None, codes}
use Rattle.std.specs.Str.{is_utf8}
use Rattle.serde_json.specs.Data.{Data}
use Rattle.serde_json.specs.Read.{read}
use Rattle.serde_json.specs.Find.{get}
use Rattle.flow_labels.specs.TwoLists.{Text}
use Rattle.capabilities.specs.declared.Caps.{Caps}
use Rattle.labelled_files.specs.Trees.{Tree}
use Rattle.world_save_terms.specs.Items.{items_of, HoldBytes}
use Rattle.world_save_terms.specs.Rows.{Row, AreRows}
use Rattle.world_save_terms.specs.Document.{Parts, parts_of, Spells, most_document}
use Rattle.world_save_terms.specs.Refusals.{AllNamed, IsLeastUnnamed, bad_path}
use Rattle.world_save_items.specs.Measures.{capped}
use Rattle.world_save_files.specs.declared.document.SaveFault.{SaveFault}
use Rattle.world_save_files.specs.declared.document.SaveFault.TheVariants.{Unnamed, BadText, TooBig, NoMemory}

-- an older document is a text, and has these pipes and threads
pub record HasKept (old : Text) (pipes threads : Data) : Type 0 where
  pub utf8 : is_utf8 old ≡ true
  pub document : Data
  pub reads : read old ≡ Some document
  pub pipes_are : get (codes "pipes") document ≡ Some pipes
  pub threads_are : get (codes "threads") document ≡ Some threads

-- it has pipes and threads that the next one can take
abbrev pub CanBeKept : Text → Type 0
CanBeKept old = (pipes : Data) × (threads : Data) × HasKept old pipes threads

-- The parts of the document of files and directories: a row for each home that is counted, in order, the tags, the items
-- that can be reached from the root, and the pipes and threads of an older document.
pub record ArePartsOf (names : List Text) (public : Caps) (t : Tree) (old : Text) (p : Parts) : Type 0 where
  pub rows : List Row
  pub counts : AreRows names t.counts rows
  pub pipes : Data
  pub threads : Data
  pub kept : HasKept old pipes threads
  pub are : p ≡ parts_of names public t rows pipes threads

-- each label and each path that would be written has a text
abbrev pub HaveText : List Text → Tree → Type 0
HaveText names t = AllNamed names t × (bad_path t ≡ None)

-- a text of these parts, where each label and each path has one
pub record IsTextOf (names : List Text) (public : Caps) (t : Tree) (old text : Text) : Type 0 where
  pub have : HaveText names t
  pub parts : Parts
  pub parts_are : ArePartsOf names public t old parts
  pub spells : Spells parts text

-- the text that is saved, and the number of its items; what the files hold are bytes
pub record IsSavedText (names : List Text) (public : Caps) (t : Tree) (old text : Text) (items : ℕ) : Type 0 where
  pub text_is : IsTextOf names public t old text
  pub fits : length text ≤ most_document
  pub counted : items ≡ length (items_of t)
  pub bytes : HoldBytes t

-- the text would have too many bytes: so many, or where they are more than any number says, the greatest number
pub record IsTooBig (names : List Text) (public : Caps) (t : Tree) (old : Text) (bytes : ℕ) : Type 0 where
  pub text : Text
  pub text_is : IsTextOf names public t old text
  pub long : most_document < length text
  pub counted : bytes ≡ capped (length text)

-- why nothing is saved, the first of these
abbrev pub IsSaveFault : List Text → Caps → Tree → Text → SaveFault → Type 0
IsSaveFault names public t old (Unnamed tag) = IsLeastUnnamed names t tag
IsSaveFault names public t old (BadText item) = AllNamed names t × (bad_path t ≡ Some item)
IsSaveFault names public t old (TooBig bytes) = IsTooBig names public t old bytes
IsSaveFault names public t old NoMemory = Unit {0}

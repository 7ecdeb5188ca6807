-- The files, directories and pipes of a document. Each is made by its store's own definition, in the order of the
-- document, in the home whose maker's label and own label are the label that it has. (Files and directories of version 3
-- stand in `Numbered`.)
--
-- After the directory `d` the path `d/x` is that of a place in it, and `e/x` is none.
use Rattle.std.specs.Prelude.{◌≡◌, ℕ, suc, true, false, not, nat_eq, nat_le, nat_lt, if◌then◌else◌, List, [], ◌∷◌, ◌++◌, length, is_some, Option, Some, None, Ok, Err, codes, option_and_then, refl}
use Rattle.std.specs.Map.{lookup}
use Rattle.serde_json.specs.Data.{Data, null, boolean, string, Items, no_items, item, Members}
use Rattle.serde_json.specs.Find.{get_member, as_bool, as_str, as_array, as_object}
use Rattle.lam_value.specs.declared.names.Name.{Name}
use Rattle.lam_value.specs.Homes.{Home, home_of, name_of, count_in}
use Rattle.flow_labels.specs.TwoLists.{Text}
use Rattle.labelled_files.specs.declared.directory.EntryKind.TheVariants.{Dir}
use Rattle.labelled_files.specs.declared.files.FileFault.{FileFault}
use Rattle.labelled_files.specs.Entries.{text_eq, is_entry_name, name_of_kind}
use Rattle.labelled_files.specs.Trees.{most_bytes, Tree, root_alone, target_at, first_fault, next_name, with_file, with_dir, with_more}
use Rattle.lam_machine_terms.specs.Queues.{most_pipes, Queues, no_pipes, with_pipe}
use Rattle.world_doc_terms.specs.Breaks.{NoMember, BadMember, BadPath, PathTwice, Reading, ◌>>=◌, only_if, formed, member_as}
use Rattle.world_doc_terms.specs.Tags.{label_in}

-- ---- paths

-- the texts between the marks `/`; what was read of the first of them stands before the rest of the path
abbrev pub parts_from : Text → Text → List Text
parts_from part [] = part ∷ []
parts_from part (b ∷ bs) = if nat_eq b 47 then part ∷ parts_from [] bs else parts_from (part ++ b ∷ []) bs

abbrev pub parts : Text → List Text
parts path = parts_from [] path

-- a place for an entry: its directory and its name
pub record Spot : Type 0 where
  pub dir : Name
  pub text : Text

abbrev pub dir_at : Tree → Name → Text → Option Name
dir_at t dir text = name_of_kind Dir (target_at t dir text)

-- from a directory down by the entries of directories; the last name is one that an entry may have
abbrev pub spot_from : Tree → Name → List Text → Option Spot
spot_from t dir [] = None
spot_from t dir (text ∷ []) = only_if (is_entry_name text) (record { dir = dir; text = text })
spot_from t dir (text ∷ next ∷ rest) = option_and_then (λ below. spot_from t below (next ∷ rest)) (dir_at t dir text)

-- a place where nothing stands
abbrev pub free_spot : ℕ → Tree → Option Spot → Reading Spot
free_spot index t None = Err (BadPath index)
free_spot index t (Some s) = if is_some (target_at t s.dir s.text) then Err (PathTwice index) else Ok s

abbrev pub spot_of : ℕ → Tree → Text → Reading Spot
spot_of index t path = free_spot index t (spot_from t t.root (parts path))

-- ---- the items of the tree

pub data Content : Type 0 where
  a_dir : Content
  a_text : (bytes : Text) → Content

abbrev pub as_dir : Data → Option Content
as_dir d = option_and_then (λ b. only_if b a_dir) (as_bool d)

abbrev pub as_text : Data → Option Content
as_text d = option_and_then (λ bytes. only_if (nat_le (length bytes) most_bytes) (a_text bytes)) (as_str d)

-- by the member `dir` and one that has the bytes of a file, of which one is there
abbrev pub content_by : Text → (Data → Option Content) → Option Data → Option Data → Reading Content
content_by name form (Some d) (Some e) = Err (BadMember (codes "dir"))
content_by name form (Some d) None = formed (codes "dir") (as_dir d)
content_by name form None (Some e) = formed name (form e)
content_by name form None None = Err (NoMember name)

abbrev pub content_of : Option Data → Option Data → Reading Content
content_of d e = content_by (codes "text") as_text d e

abbrev pub with_content : Tree → Spot → Home → Content → Tree
with_content t s home a_dir = with_dir t s.dir s.text home
with_content t s home (a_text bytes) = with_more (with_file t s.dir s.text home) (next_name t home) bytes

-- where nothing is at fault: a directory and a home have room
abbrev pub unless_full : ℕ → Option FileFault → Tree → Reading Tree
unless_full index None t = Ok t
unless_full index (Some fault) t = Err (BadPath index)

abbrev pub with_item : List Text → ℕ → Tree → Members → Reading Tree
with_item names index t ms =
    member_as (codes "path") as_str ms
    >>= λ path. spot_of index t path
    >>= λ s. label_in names ms
    >>= λ l. content_of (get_member (codes "dir") ms) (get_member (codes "text") ms)
    >>= λ content. unless_full index (first_fault t s.dir s.text (home_of l l)) (with_content t s (home_of l l) content)

abbrev pub with_items : List Text → ℕ → Tree → Items → Reading Tree
with_items names index t no_items = Ok t
with_items names index t (item d ds) = formed (codes "tree") (as_object d) >>= λ ms. with_item names index t ms >>= λ u. with_items names (suc index) u ds

abbrev pub tree_in : List Text → Members → Reading Tree
tree_in names ms = member_as (codes "tree") as_array ms >>= λ items. with_items names 0 root_alone items

-- ---- pipes

-- the pipes, and what a document calls each
pub record Pipes : Type 0 where
  pub queues : Queues
  pub called : List (Text × Name)

abbrev pub pipe_called : List (Text × Name) → Text → Option Name
pipe_called called text = lookup (text_eq text) called

-- a name that no pipe before has
abbrev pub new_name : List (Text × Name) → Data → Option Text
new_name called d = option_and_then (λ text. only_if (not (is_some (pipe_called called text))) text) (as_str d)

-- one more pipe, where its home has room
abbrev pub with_called : Pipes → Text → Home → Reading Pipes
with_called p text home =
    if nat_lt (count_in p.queues.counts home) most_pipes
    then Ok (record { queues = with_pipe p.queues home; called = p.called ++ (text, name_of home (count_in p.queues.counts home)) ∷ [] })
    else Err (BadMember (codes "pipes"))

abbrev pub with_pipe_item : List Text → Pipes → Members → Reading Pipes
with_pipe_item names p ms = member_as (codes "name") (new_name p.called) ms >>= λ text. label_in names ms >>= λ l. with_called p text (home_of l l)

abbrev pub with_pipes : List Text → Pipes → Items → Reading Pipes
with_pipes names p no_items = Ok p
with_pipes names p (item d ds) = formed (codes "pipes") (as_object d) >>= λ ms. with_pipe_item names p ms >>= λ more. with_pipes names more ds

abbrev pub pipes_in : List Text → Members → Reading Pipes
pipes_in names ms = member_as (codes "pipes") as_array ms >>= λ items. with_pipes names (record { queues = no_pipes; called = [] }) items

-- ---- worked examples
three_parts : parts (codes "a/b c/") ≡ codes "a" ∷ codes "b c" ∷ [] ∷ []
three_parts = refl

in_the_root : (t : Tree) → spot_from t t.root (parts (codes "x")) ≡ Some (record { dir = t.root; text = codes "x" })
in_the_root t = refl

no_entry_name : (t : Tree) → spot_of 7 t (codes "..") ≡ Err (BadPath 7)
no_entry_name t = refl

empty_path : (t : Tree) → spot_of 7 t [] ≡ Err (BadPath 7)
empty_path t = refl

a_directory : content_of (Some (boolean true)) None ≡ Ok a_dir
a_directory = refl

no_directory : content_of (Some (boolean false)) None ≡ Err (BadMember (codes "dir"))
no_directory = refl

both : content_of (Some null) (Some (string [])) ≡ Err (BadMember (codes "dir"))
both = refl

neither : content_of None None ≡ Err (NoMember (codes "text"))
neither = refl

a_file : content_of None (Some (string (codes "hi"))) ≡ Ok (a_text (codes "hi"))
a_file = refl

name_twice : (n : Name) → new_name ((codes "p", n) ∷ []) (string (codes "p")) ≡ None
name_twice n = refl

name_once : (n : Name) → new_name ((codes "p", n) ∷ []) (string (codes "q")) ≡ Some (codes "q")
name_once n = refl

-- The world at the start of a run, from a document, or the first break of the document.
--
-- The members are looked at in the order `version`, `tags`, `tree`, `pipes`, `threads`, in version 3 with `counts` before
-- `tree`, and the items of lists in their order; members with other names are not looked at. What is public is so by the
-- kinds of the tags: where the tag a is of kind export, everybody may add it.
use Rattle.std.specs.Prelude.{◌≡◌, ℕ, nat_eq, if◌then◌else◌, List, [], length, Option, Some, None, Ok, Err, codes, option_and_then, refl}
use Rattle.std.specs.Str.{is_utf8}
use Rattle.std.specs.FinMap.{empty}
use Rattle.serde_json.specs.Data.{Data, null, number, string, array, object, unsigned, no_items, Members, no_members, member}
use Rattle.serde_json.specs.Find.{as_number, as_object, as_u64}
use Rattle.serde_json.specs.Read.{read}
use Rattle.flow_labels.specs.TwoLists.{Text}
use Rattle.capabilities.specs.Kinds.{public_of}
use Rattle.labelled_heap.specs.Things.{no_things}
use Rattle.labelled_files.specs.Trees.{Tree}
use Rattle.lam_bytecode.specs.Codes.{CodeTree}
use Rattle.lam_machine_terms.specs.Worlds.{World}
use Rattle.world_doc_terms.specs.declared.version.Version.{Version}
use Rattle.world_doc_terms.specs.declared.version.Version.TheVariants.{One, Two, Three}
use Rattle.world_doc_terms.specs.Breaks.{NotJson, NoMember, BadMember, Reading, ◌>>=◌, only_if, formed, member_as}
use Rattle.world_doc_terms.specs.Tags.{tags_in}
use Rattle.world_doc_terms.specs.Stores.{tree_in, pipes_in}
use Rattle.world_doc_terms.specs.Numbered.{numbered_in}
use Rattle.world_doc_terms.specs.Entries.{threads_in}

-- the version of a number, 1 to 3
abbrev pub version_of : ℕ → Option Version
version_of n = if nat_eq n 1 then Some One else (if nat_eq n 2 then Some Two else only_if (nat_eq n 3) Three)

abbrev pub version_in : Members → Reading Version
version_in ms = member_as (codes "version") (λ d. option_and_then version_of (option_and_then as_u64 (as_number d))) ms

-- the files and directories, which in version 3 say their names
abbrev pub files_in : Version → List Text → Members → Reading Tree
files_in One names ms = tree_in names ms
files_in Two names ms = tree_in names ms
files_in Three names ms = numbered_in names ms

-- no things, no monitors, no more tags than have names, and public is what their kinds make so
abbrev pub world_in : CodeTree → Members → Reading World
world_in code ms =
    version_in ms
    >>= λ version. tags_in version ms
    >>= λ tags. files_in version tags.names ms
    >>= λ files. pipes_in tags.names ms
    >>= λ pipes. threads_in code tags.names pipes.called ms
    >>= λ threads. Ok (record { names = tags.names; public = public_of tags.kinds; next_tag = length tags.names; heap = no_things; monitors = empty; files = files; pipes = pipes.queues; threads = threads })

abbrev pub world_of : Data → CodeTree → Reading World
world_of d code = formed (codes "version") (as_object d) >>= λ ms. world_in code ms

abbrev pub world_or : Option Data → CodeTree → Reading World
world_or None code = Err NotJson
world_or (Some d) code = world_of d code

-- what is read of a text, which is UTF-8
abbrev pub data_of : Text → Option Data
data_of text = if is_utf8 text then read text else None

-- of a text
abbrev pub start_of : Text → CodeTree → Reading World
start_of text code = world_or (data_of text) code

-- ---- worked examples
no_object : (code : CodeTree) → world_of (array no_items) code ≡ Err (BadMember (codes "version"))
no_object code = refl

no_member : (code : CodeTree) → world_of (object no_members) code ≡ Err (NoMember (codes "version"))
no_member code = refl

no_such_version : (code : CodeTree) → world_of (object (member (codes "version") (number (unsigned 4)) no_members)) code ≡ Err (BadMember (codes "version"))
no_such_version code = refl

tags_not_there : (code : CodeTree) → world_of (object (member (codes "version") (number (unsigned 1)) no_members)) code ≡ Err (NoMember (codes "tags"))
tags_not_there code = refl

second_version : (code : CodeTree) → world_of (object (member (codes "version") (number (unsigned 2)) no_members)) code ≡ Err (NoMember (codes "tags"))
second_version code = refl

third_version : (code : CodeTree) → world_of (object (member (codes "version") (number (unsigned 3)) no_members)) code ≡ Err (NoMember (codes "tags"))
third_version code = refl

-- a document of a version, with tags, of which there are none, and a tree that is no list
abbrev no_tree : ℕ → Data
no_tree n = object (member (codes "tags") (array no_items) (member (codes "tree") null (member (codes "version") (number (unsigned n)) no_members)))

tree_after_tags : (code : CodeTree) → world_of (no_tree 2) code ≡ Err (BadMember (codes "tree"))
tree_after_tags code = refl

counts_before_tree : (code : CodeTree) → world_of (no_tree 3) code ≡ Err (NoMember (codes "counts"))
counts_before_tree code = refl

tags_before_threads : (code : CodeTree) → world_of (object (member (codes "tags") null (member (codes "threads") (string []) (member (codes "version") (number (unsigned 1)) no_members)))) code ≡ Err (BadMember (codes "tags"))
tags_before_threads code = refl

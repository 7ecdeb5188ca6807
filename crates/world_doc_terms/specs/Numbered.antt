-- The files and directories of a document of version 3, which is that of a saved world: each says its own name, and
-- `counts` says how many each home has made.
--
-- A name is a home, of a maker's label and an own label, and a number there. Where `counts` is
-- `[{"maker":"{}/{}","own":"{}/{}","next":3}]`, an item with these two labels may have the number 1 or 2, each once; the
-- number 0 is the root's, and 3 was not given yet. An item of any other home breaks the document.
use Rattle.std.specs.Prelude.{◌≡◌, ℕ, suc, ◌*◌, Bool, true, false, not, ◌&&◌, nat_le, nat_lt, if◌then◌else◌, List, [], ◌∷◌, length, Option, Some, None, Result, Ok, Err, codes, option_and_then, option_map, refl}
use Rattle.std.specs.List.{list_any}
use Rattle.std.specs.FinMap.{empty, insert}
use Rattle.serde_json.specs.Data.{Data, boolean, number, string, unsigned, Items, no_items, item, Members, no_members, member}
use Rattle.serde_json.specs.Find.{get_member, as_number, as_u64, as_str, as_array, as_object}
use Rattle.hex.specs.Hex.{decode_of, decode_pairs}
use Rattle.hex.specs.declared.error.FromHexError.{FromHexError}
use Rattle.flow_labels.specs.TwoLists.{Text}
use Rattle.lam_value.specs.declared.names.Name.{Name}
use Rattle.lam_value.specs.Homes.{Home, Counts, home_of, name_of, count_in}
use Rattle.labelled_files.specs.declared.directory.EntryKind.TheVariants.{File, Dir}
use Rattle.labelled_files.specs.Trees.{most_bytes, most_files, Tree, public_home, root_alone, lives_as, place_fault, placed, with_more}
use Rattle.world_doc_terms.specs.Breaks.{NoMember, BadMember, Reading, ◌>>=◌, only_if, formed, member_as}
use Rattle.world_doc_terms.specs.Tags.{label_as, label_in}
use Rattle.world_doc_terms.specs.Stores.{Spot, Content, a_dir, a_text, content_by, spot_of, unless_full}

abbrev pub whole : Data → Option ℕ
whole d = option_and_then as_u64 (as_number d)

-- ---- how many files and directories each home has made

-- from 1 to as many as a home may make
abbrev pub next_in : Members → Reading ℕ
next_in ms = member_as (codes "next") (λ d. option_and_then (λ n. only_if (nat_le 1 n && nat_le n most_files) n) (whole d)) ms

abbrev pub has_made : Counts → Home → Bool
has_made counts home = nat_lt 0 (count_in counts home)

-- a home that no item before names; one that comes again is a break of the list
abbrev pub new_home : Counts → Home → Reading Home
new_home counts home = formed (codes "counts") (only_if (not (has_made counts home)) home)

-- The home is looked at before its number, all of it: a label that is not there, one that has another form, and a home that
-- comes again.
abbrev pub with_count_item : List Text → Counts → Members → Reading Counts
with_count_item names counts ms =
    label_as (codes "maker") names ms
    >>= λ maker. label_as (codes "own") names ms
    >>= λ own. new_home counts (home_of maker own)
    >>= λ home. next_in ms >>= λ n. Ok (insert counts home n)

abbrev pub with_counts : List Text → Counts → Items → Reading Counts
with_counts names counts no_items = Ok counts
with_counts names counts (item d ds) = formed (codes "counts") (as_object d) >>= λ ms. with_count_item names counts ms >>= λ more. with_counts names more ds

-- the home of the root is there, since it has made the root
abbrev pub with_root : Counts → Reading Counts
with_root counts = formed (codes "counts") (only_if (has_made counts public_home) counts)

abbrev pub counts_in : List Text → Members → Reading Counts
counts_in names ms = member_as (codes "counts") as_array ms >>= with_counts names empty >>= with_root

-- the root alone, where homes have made so many
abbrev pub root_counted : Counts → Tree
root_counted counts = record root_alone { counts = counts }

-- ---- the items of the tree

abbrev pub is_capital : ℕ → Bool
is_capital b = nat_le 65 b && nat_le b 90

abbrev pub bytes_or : Result Text FromHexError → Option Text
bytes_or (Ok bytes) = Some bytes
bytes_or (Err e) = None

-- the bytes that an even number of hexadecimal digits spells, none of them a capital
abbrev pub bytes_of_hex : Text → Option Text
bytes_of_hex text = if list_any is_capital text then None else bytes_or (decode_of text)

-- two digits a byte
abbrev pub most_digits : ℕ
most_digits = 2 * most_bytes

abbrev pub few_digits : Text → Option Text
few_digits text = only_if (nat_le (length text) most_digits) text

abbrev pub as_hex : Data → Option Content
as_hex d = option_map a_text (option_and_then bytes_of_hex (option_and_then few_digits (as_str d)))

-- by the members `dir` and `hex`, of which one is there
abbrev pub hex_content_of : Option Data → Option Data → Reading Content
hex_content_of d e = content_by (codes "hex") as_hex d e

-- a name whose home has given its number, and that nothing has
abbrev pub is_open : Tree → Name → Bool
is_open t n = nat_lt n.n (count_in t.counts (home_of n.maker n.own)) && (not (lives_as File t n) && not (lives_as Dir t n))

-- the name with the number of an item
abbrev pub name_in : Tree → Home → Members → Reading Name
name_in t home ms = member_as (codes "number") (λ d. option_and_then (λ n. only_if (is_open t (name_of home n)) (name_of home n)) (whole d)) ms

abbrev pub with_named : Tree → Spot → Name → Content → Tree
with_named t s n a_dir = placed t s.dir s.text Dir n
with_named t s n (a_text bytes) = with_more (placed t s.dir s.text File n) n bytes

-- The members are looked at in the order `path`, `label`, `maker`, `number`, `dir` and `hex`. After them all the directory
-- has room; a home has no limit of its own here.
abbrev pub with_numbered_item : List Text → ℕ → Tree → Members → Reading Tree
with_numbered_item names index t ms =
    member_as (codes "path") as_str ms
    >>= λ path. spot_of index t path
    >>= λ s. label_in names ms
    >>= λ own. label_as (codes "maker") names ms
    >>= λ maker. name_in t (home_of maker own) ms
    >>= λ name. hex_content_of (get_member (codes "dir") ms) (get_member (codes "hex") ms)
    >>= λ content. unless_full index (place_fault t s.dir s.text) (with_named t s name content)

abbrev pub with_numbered_items : List Text → ℕ → Tree → Items → Reading Tree
with_numbered_items names index t no_items = Ok t
with_numbered_items names index t (item d ds) = formed (codes "tree") (as_object d) >>= λ ms. with_numbered_item names index t ms >>= λ u. with_numbered_items names (suc index) u ds

abbrev pub numbered_tree_in : List Text → Counts → Members → Reading Tree
numbered_tree_in names counts ms = member_as (codes "tree") as_array ms >>= with_numbered_items names 0 (root_counted counts)

-- the counters are those of `counts`, and the items stand below the root in the order of the list
abbrev pub numbered_in : List Text → Members → Reading Tree
numbered_in names ms = counts_in names ms >>= λ counts. numbered_tree_in names counts ms

-- ---- worked examples
two_bytes : bytes_of_hex (codes "00ff") ≡ Some (0 ∷ 255 ∷ [])
unfolding decode_pairs
two_bytes = refl

no_bytes : bytes_of_hex [] ≡ Some []
unfolding decode_pairs
no_bytes = refl

a_capital : bytes_of_hex (codes "0A") ≡ None
a_capital = refl

odd_number : bytes_of_hex (codes "abc") ≡ None
odd_number = refl

no_digit : bytes_of_hex (codes "0g") ≡ None
unfolding decode_pairs
no_digit = refl

a_file : hex_content_of None (Some (string (codes "6869"))) ≡ Ok (a_text (codes "hi"))
unfolding decode_pairs
a_file = refl

both : hex_content_of (Some (boolean true)) (Some (string (codes "6869"))) ≡ Err (BadMember (codes "dir"))
both = refl

neither : hex_content_of None None ≡ Err (NoMember (codes "hex"))
neither = refl

no_hex : hex_content_of None (Some (boolean true)) ≡ Err (BadMember (codes "hex"))
no_hex = refl

first_number : next_in (member (codes "next") (number (unsigned 1)) no_members) ≡ Ok 1
first_number = refl

last_number : next_in (member (codes "next") (number (unsigned 65536)) no_members) ≡ Ok 65536
last_number = refl

no_number_yet : next_in (member (codes "next") (number (unsigned 0)) no_members) ≡ Err (BadMember (codes "next"))
no_number_yet = refl

past_the_limit : next_in (member (codes "next") (number (unsigned 65537)) no_members) ≡ Err (BadMember (codes "next"))
past_the_limit = refl

maker_before_own : with_count_item [] empty no_members ≡ Err (NoMember (codes "maker"))
maker_before_own = refl

no_number : (t : Tree) (home : Home) → name_in t home (member (codes "number") (string (codes "1")) no_members) ≡ Err (BadMember (codes "number"))
no_number t home = refl

number_not_there : (t : Tree) (home : Home) → name_in t home no_members ≡ Err (NoMember (codes "number"))
number_not_there t home = refl

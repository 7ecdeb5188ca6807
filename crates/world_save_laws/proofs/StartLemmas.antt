-- The files and directories of a document are small, in each version.
use Rattle.std.proofs.Common.{◌≡◌, ◌<◌, ℕ, suc, true, List, length, Option, Some, None, Ok, subst, arith}
use Rattle.std.specs.Prelude.{IfOk, ◌&&◌, nat_le, codes, option_and_then}
use Rattle.std.specs.FinMap.{empty, insert}
use Rattle.std.proofs.lemmas.Bool.{leb-true, and_parts}
use Rattle.serde_json.specs.Data.{Data, Items, no_items, item, Members}
use Rattle.serde_json.specs.Find.{get_member, as_str, as_array, as_object}
use Rattle.flow_labels.specs.declared.Label.{Label}
use Rattle.flow_labels.specs.TwoLists.{Text}
use Rattle.capabilities.specs.Kinds.{public_of}
use Rattle.lam_value.specs.declared.names.Name.{Name}
use Rattle.lam_value.specs.Homes.{Home, Counts, home_of, IsAboveZero}
use Rattle.labelled_heap.specs.Things.{no_things}
use Rattle.labelled_files.specs.declared.directory.EntryKind.TheVariants.{File, Dir}
use Rattle.labelled_files.specs.declared.files.FileFault.{FileFault}
use Rattle.labelled_files.specs.Trees.{Tree, root_alone, first_fault, next_name, with_file, place_fault, placed}
use Rattle.lam_bytecode.specs.Codes.{CodeTree}
use Rattle.thread_steps.specs.Threads.{Thread}
use Rattle.lam_machine_terms.specs.Worlds.{World}
use Rattle.world_doc_terms.specs.declared.version.Version.{Version}
use Rattle.world_doc_terms.specs.declared.version.Version.TheVariants.{One, Two, Three}
use Rattle.world_doc_terms.specs.Breaks.{Reading, ◌>>=◌, only_if, formed, member_as}
use Rattle.world_doc_terms.specs.Tags.{FirstTags, tags_in, label_as, label_in}
use Rattle.world_doc_terms.specs.Stores.{Spot, spot_of, Content, a_dir, a_text, content_of, with_content, unless_full, with_item, with_items, tree_in, Pipes, pipes_in}
use Rattle.world_doc_terms.specs.Numbered.{whole, next_in, has_made, new_home, with_count_item, with_counts, with_root, counts_in, root_counted, hex_content_of, name_in, with_named, with_numbered_item, with_numbered_items, numbered_tree_in, numbered_in}
use Rattle.labelled_files.specs.Trees.{public_home}
use Rattle.world_doc_terms.specs.Entries.{threads_in}
use Rattle.world_doc_terms.specs.Start.{version_in, files_in, world_in, world_or}
use Rattle.world_forest_laws.proofs.Readings.{after, onward, formed_good, member_good, tested, option_good}
use Rattle.world_save_laws.specs.EndLaws.{IsSmall, StartsAreSmall}
use Rattle.world_save_laws.proofs.SmallLemmas.{more_above, none_above, small_root, small_counts, small_file, small_dir, small_placed, small_more}

-- ---- versions 1 and 2

content_small : (t : Tree) → IsSmall t → (s : Spot) (home : Home) (content : Content) → IsSmall (with_content t s home content)
content_small t small s home a_dir = small_dir t s.dir s.text home small
content_small t small s home (a_text bytes) = small_more (with_file t s.dir s.text home) (next_name t home) bytes (small_file t s.dir s.text home small)

full_or_small : (index : ℕ) (o : Option FileFault) (t : Tree) → IsSmall t → IfOk (unless_full index o t) IsSmall
full_or_small index None t small = small
full_or_small index (Some fault) t small = tt

module _ (names : List Text) where
  module _ (index : ℕ) (t : Tree) (small : IsSmall t) (ms : Members) where
    abbrev made : Spot → Label → Content → Reading Tree
    made s l content = unless_full index (first_fault t s.dir s.text (home_of l l)) (with_content t s (home_of l l) content)

    abbrev made_with : Spot → Label → Reading Tree
    made_with s l = content_of (get_member (codes "dir") ms) (get_member (codes "text") ms) >>= λ content. made s l content

    abbrev made_at : Spot → Reading Tree
    made_at s = label_in names ms >>= λ l. made_with s l

    item_small : IfOk (with_item names index t ms) IsSmall
    item_small =
        after (member_as (codes "path") as_str ms) (λ path. spot_of index t path >>= λ s. made_at s) IsSmall
        (λ path. after (spot_of index t path) (λ s. made_at s) IsSmall
        (λ s. after (label_in names ms) (λ l. made_with s l) IsSmall
        (λ l. after (content_of (get_member (codes "dir") ms) (get_member (codes "text") ms)) (λ content. made s l content) IsSmall
        (λ content. full_or_small index (first_fault t s.dir s.text (home_of l l)) (with_content t s (home_of l l) content) (content_small t small s (home_of l l) content)))))

  items_small : (index : ℕ) (t : Tree) → IsSmall t → (ds : Items) → IfOk (with_items names index t ds) IsSmall
  items_small index t small no_items = small
  items_small index t small (item d ds) =
      after (formed (codes "tree") (as_object d)) (λ ms. with_item names index t ms >>= λ u. with_items names (suc index) u ds) IsSmall
      (λ ms. onward (with_item names index t ms) IsSmall (item_small index t small ms) (λ u. with_items names (suc index) u ds) IsSmall (λ u h. items_small (suc index) u h ds))

  tree_small : (ms : Members) → IfOk (tree_in names ms) IsSmall
  tree_small ms = after (member_as (codes "tree") as_array ms) (λ items. with_items names 0 root_alone items) IsSmall (λ items. items_small 0 root_alone small_root items)

-- ---- version 3: the counters

some_tested : (n : ℕ) → (nat_le 1 n && nat_le n 65536) ≡ true → 0 < n
some_tested n e = let first = leb-true 1 n (and_parts (nat_le 1 n) (nat_le n 65536) e).0 in omega (arith, first)

next_some : (ms : Members) → IfOk (next_in ms) (λ (n : ℕ). 0 < n)
next_some ms =
    member_good (λ (n : ℕ). 0 < n) (codes "next") (λ d. option_and_then (λ n. only_if (nat_le 1 n && nat_le n 65536) n) (whole d)) ms
    (λ d. option_good (λ (n : ℕ). 0 < n) (λ n. only_if (nat_le 1 n && nat_le n 65536) n) (whole d) (λ n. tested (λ (n : ℕ). 0 < n) (nat_le 1 n && nat_le n 65536) n (some_tested n)))

module _ (names : List Text) where
  module _ (counts : Counts) (above : IsAboveZero counts) (ms : Members) where
    abbrev counted_by : Home → Reading Counts
    counted_by home = next_in ms >>= λ n. Ok (insert counts home n)

    abbrev counted_at : Label → Label → Reading Counts
    counted_at maker own = new_home counts (home_of maker own) >>= λ home. counted_by home

    item_above : IfOk (with_count_item names counts ms) IsAboveZero
    item_above =
        after (label_as (codes "maker") names ms) (λ maker. label_as (codes "own") names ms >>= λ own. counted_at maker own) IsAboveZero
        (λ maker. after (label_as (codes "own") names ms) (λ own. counted_at maker own) IsAboveZero
        (λ own. after (new_home counts (home_of maker own)) (λ home. counted_by home) IsAboveZero
        (λ home. onward (next_in ms) (λ (n : ℕ). 0 < n) (next_some ms) (λ n. Ok (insert counts home n)) IsAboveZero (λ n positive. more_above counts home n positive above))))

  items_above : (counts : Counts) → IsAboveZero counts → (ds : Items) → IfOk (with_counts names counts ds) IsAboveZero
  items_above counts above no_items = above
  items_above counts above (item d ds) =
      after (formed (codes "counts") (as_object d)) (λ ms. with_count_item names counts ms >>= λ more. with_counts names more ds) IsAboveZero
      (λ ms. onward (with_count_item names counts ms) IsAboveZero (item_above counts above ms) (λ more. with_counts names more ds) IsAboveZero (λ more h. items_above more h ds))

  all_above : (ms : Members) → IfOk (member_as (codes "counts") as_array ms >>= with_counts names empty) IsAboveZero
  all_above ms = after (member_as (codes "counts") as_array ms) (with_counts names empty) IsAboveZero (λ items. items_above empty none_above items)

  counts_above : (ms : Members) → IfOk (counts_in names ms) IsAboveZero
  counts_above ms =
      onward (member_as (codes "counts") as_array ms >>= with_counts names empty) IsAboveZero (all_above ms) with_root IsAboveZero
      (λ counts above. formed_good IsAboveZero (codes "counts") (only_if (has_made counts public_home) counts) (tested IsAboveZero (has_made counts public_home) counts (λ e. above)))

-- ---- the items, which say their names

named_small : (t : Tree) → IsSmall t → (s : Spot) (n : Name) (content : Content) → IsSmall (with_named t s n content)
named_small t small s n a_dir = small_placed t s.dir s.text Dir n small
named_small t small s n (a_text bytes) = small_more (placed t s.dir s.text File n) n bytes (small_placed t s.dir s.text File n small)

module _ (names : List Text) where
  module _ (index : ℕ) (t : Tree) (small : IsSmall t) (ms : Members) where
    abbrev put : Spot → Name → Content → Reading Tree
    put s n content = unless_full index (place_fault t s.dir s.text) (with_named t s n content)

    abbrev put_with : Spot → Name → Reading Tree
    put_with s n = hex_content_of (get_member (codes "dir") ms) (get_member (codes "hex") ms) >>= λ content. put s n content

    abbrev put_in : Spot → Home → Reading Tree
    put_in s home = name_in t home ms >>= λ n. put_with s n

    abbrev put_at : Spot → Reading Tree
    put_at s = label_in names ms >>= λ own. label_as (codes "maker") names ms >>= λ maker. put_in s (home_of maker own)

    home_small : (s : Spot) (home : Home) → IfOk (put_in s home) IsSmall
    home_small s home =
        after (name_in t home ms) (λ n. put_with s n) IsSmall
        (λ n. after (hex_content_of (get_member (codes "dir") ms) (get_member (codes "hex") ms)) (λ content. put s n content) IsSmall
        (λ content. full_or_small index (place_fault t s.dir s.text) (with_named t s n content) (named_small t small s n content)))

    spot_small : (s : Spot) → IfOk (put_at s) IsSmall
    spot_small s =
        after (label_in names ms) (λ own. label_as (codes "maker") names ms >>= λ maker. put_in s (home_of maker own)) IsSmall
        (λ own. after (label_as (codes "maker") names ms) (λ maker. put_in s (home_of maker own)) IsSmall (λ maker. home_small s (home_of maker own)))

    numbered_item_small : IfOk (with_numbered_item names index t ms) IsSmall
    numbered_item_small = after (member_as (codes "path") as_str ms) (λ path. spot_of index t path >>= λ s. put_at s) IsSmall (λ path. after (spot_of index t path) (λ s. put_at s) IsSmall spot_small)

  numbered_items_small : (index : ℕ) (t : Tree) → IsSmall t → (ds : Items) → IfOk (with_numbered_items names index t ds) IsSmall
  numbered_items_small index t small no_items = small
  numbered_items_small index t small (item d ds) =
      after (formed (codes "tree") (as_object d)) (λ ms. with_numbered_item names index t ms >>= λ u. with_numbered_items names (suc index) u ds) IsSmall
      (λ ms. onward (with_numbered_item names index t ms) IsSmall (numbered_item_small index t small ms) (λ u. with_numbered_items names (suc index) u ds) IsSmall (λ u h. numbered_items_small (suc index) u h ds))

  numbered_tree_small : (ms : Members) (counts : Counts) → IsAboveZero counts → IfOk (numbered_tree_in names counts ms) IsSmall
  numbered_tree_small ms counts above =
      after (member_as (codes "tree") as_array ms) (with_numbered_items names 0 (root_counted counts)) IsSmall (λ items. numbered_items_small 0 (root_counted counts) (small_counts root_alone counts above small_root) items)

  numbered_small : (ms : Members) → IfOk (numbered_in names ms) IsSmall
  numbered_small ms = onward (counts_in names ms) IsAboveZero (counts_above names ms) (λ counts. numbered_tree_in names counts ms) IsSmall (numbered_tree_small ms)

-- ---- the start

abbrev Small : World → Type 0
Small w = IsSmall w.files

files_small : (version : Version) (names : List Text) (ms : Members) → IfOk (files_in version names ms) IsSmall
files_small One names ms = tree_small names ms
files_small Two names ms = tree_small names ms
files_small Three names ms = numbered_small names ms

module _ (code : CodeTree) (ms : Members) where
  abbrev whole_world : FirstTags → Tree → Pipes → List Thread → Reading World
  whole_world tags files pipes threads = Ok (record { names = tags.names; public = public_of tags.kinds; next_tag = length tags.names; heap = no_things; monitors = empty; files = files; pipes = pipes.queues; threads = threads })

  abbrev with_pipes : FirstTags → Tree → Pipes → Reading World
  with_pipes tags files pipes = threads_in code tags.names pipes.called ms >>= λ threads. whole_world tags files pipes threads

  abbrev with_files : FirstTags → Tree → Reading World
  with_files tags files = pipes_in tags.names ms >>= λ pipes. with_pipes tags files pipes

  abbrev with_names : Version → FirstTags → Reading World
  with_names version tags = files_in version tags.names ms >>= λ files. with_files tags files

  rest_small : (tags : FirstTags) (files : Tree) → IsSmall files → IfOk (with_files tags files) Small
  rest_small tags files small =
      after (pipes_in tags.names ms) (λ pipes. with_pipes tags files pipes) Small
      (λ pipes. after (threads_in code tags.names pipes.called ms) (λ threads. whole_world tags files pipes threads) Small (λ threads. small))

  members_small : IfOk (world_in code ms) Small
  members_small =
      after (version_in ms) (λ version. tags_in version ms >>= λ tags. with_names version tags) Small
      (λ version. after (tags_in version ms) (λ tags. with_names version tags) Small
      (λ tags. onward (files_in version tags.names ms) IsSmall (files_small version tags.names ms) (λ files. with_files tags files) Small (rest_small tags)))

module _ (code : CodeTree) where
  small : (d : Data) → IfOk (formed (codes "version") (as_object d) >>= λ ms. world_in code ms) Small
  small d = after (formed (codes "version") (as_object d)) (λ ms. world_in code ms) Small (members_small code)

  reading : (o : Option Data) (w : World) → world_or o code ≡ Ok w → IsSmall w.files
  reading None w e = cc
  reading (Some d) w e = subst (λ (r : Reading World). IfOk r Small) e (small d)

  pub text_small : StartsAreSmall code
  text_small text w e = search (reading, e)

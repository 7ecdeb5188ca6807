-- The files and directories of a document are sound and a forest at each step.
use Rattle.std.proofs.Common.{◌≡◌, ℕ, suc, ◌<◌, ◌≤◌, Bool, true, false, List, [], Option, Some, None, Ok, refl, arith}
use Rattle.std.specs.Prelude.{IfOk, IsTrue, not, ◌&&◌, nat_le, nat_lt, codes, option_and_then}
use Rattle.std.specs.FinMap.{empty, insert}
use Rattle.std.proofs.lemmas.Bool.Decides.{nat_tests}
use Rattle.serde_json.specs.Data.{Items, no_items, item, Members}
use Rattle.serde_json.specs.Find.{get_member, as_str, as_array, as_object}
use Rattle.flow_labels.specs.declared.Label.{Label}
use Rattle.flow_labels.specs.TwoLists.{Text}
use Rattle.lam_value.specs.declared.names.Name.{Name}
use Rattle.lam_value.specs.Homes.{Home, Counts, home_of, name_of, count_in, AreWithin}
use Rattle.lam_value.proofs.CountLemmas.{within_insert, within_none, counted_none, counted_put}
use Rattle.labelled_files.specs.declared.directory.EntryKind.{EntryKind}
use Rattle.labelled_files.specs.declared.directory.EntryKind.TheVariants.{File, Dir}
use Rattle.labelled_files.specs.declared.files.FileFault.{FileFault}
use Rattle.labelled_files.specs.Entries.{Entries}
use Rattle.labelled_files.specs.Trees.{Tree, public_home, root_alone, lives_as, entries_at, first_fault, next_name, with_file, with_dir, place_fault, placed, with_more, appended, IsSound}
use Rattle.labelled_files.proofs.SoundLemmas.{good_in, sound_root, sound_file, sound_dir, sound_bytes, sound_placed_file, sound_placed_dir}
use Rattle.labelled_files.proofs.MakeLemmas.{fine, new, room, free}
use Rattle.world_doc_terms.specs.Breaks.{Reading, ◌>>=◌, only_if, formed, member_as}
use Rattle.world_doc_terms.specs.Tags.{label_as, label_in}
use Rattle.world_doc_terms.specs.Stores.{Spot, spot_of, Content, a_dir, a_text, content_of, with_content, unless_full, with_item, with_items, tree_in}
use Rattle.world_doc_terms.specs.Numbered.{whole, next_in, has_made, new_home, with_count_item, with_counts, with_root, counts_in, root_counted, hex_content_of, is_open, name_in, with_named, with_numbered_item, with_numbered_items, numbered_tree_in, numbered_in}
use Rattle.world_forest.specs.Forest.{IsForest}
use Rattle.world_forest.proofs.ForestLemmas.{forest_root, forest_file, forest_dir, forest_placed, forest_bytes, forest_counts}
use Rattle.world_forest_laws.proofs.Readings.{after, onward, formed_good, member_good, tested, option_good}

pub record IsSoundForest (t : Tree) : Type 0 where
  pub sound : IsSound t
  pub forest : IsForest t

more_bytes : (t : Tree) → IsSoundForest t → (n : Name) (bytes : Text) → IsSoundForest (with_more t n bytes)
more_bytes t f n bytes = record { sound = sound_bytes t f.sound n (appended bytes); forest = forest_bytes t n (appended bytes) f.forest }

-- ---- versions 1 and 2

root_stands : IsSoundForest root_alone
root_stands = record { sound = sound_root; forest = forest_root }

module _ (t : Tree) (f : IsSoundForest t) (s : Spot) (home : Home) (clear : first_fault t s.dir s.text home ≡ None) where
  dir_made : IsSoundForest (with_dir t s.dir s.text home)
  dir_made =
      let n = count_in t.counts home in
      record {
        sound = sound_dir t f.sound s.dir s.text home (fine t s.dir s.text n clear) (new t s.dir s.text n clear) (room t s.dir s.text n clear f.sound) (free t s.dir s.text n clear (f.sound.within home));
        forest = forest_dir t s.dir s.text home f.sound f.forest;
      }

  file_made : IsSoundForest (with_file t s.dir s.text home)
  file_made =
      let n = count_in t.counts home in
      record {
        sound = sound_file t f.sound s.dir s.text home (fine t s.dir s.text n clear) (new t s.dir s.text n clear) (room t s.dir s.text n clear f.sound) (free t s.dir s.text n clear (f.sound.within home));
        forest = forest_file t s.dir s.text home f.sound f.forest;
      }

  content_made : (content : Content) → IsSoundForest (with_content t s home content)
  content_made a_dir = dir_made
  content_made (a_text bytes) = more_bytes (with_file t s.dir s.text home) file_made (next_name t home) bytes

module _ (names : List Text) where
  module _ (index : ℕ) (t : Tree) (f : IsSoundForest t) (ms : Members) where
    abbrev made : Spot → Label → Content → Reading Tree
    made s l content = unless_full index (first_fault t s.dir s.text (home_of l l)) (with_content t s (home_of l l) content)

    abbrev made_with : Spot → Label → Reading Tree
    made_with s l = content_of (get_member (codes "dir") ms) (get_member (codes "text") ms) >>= λ content. made s l content

    abbrev made_at : Spot → Reading Tree
    made_at s = label_in names ms >>= λ l. made_with s l

    made_stands : (s : Spot) (l : Label) (content : Content) → IfOk (made s l content) IsSoundForest
    made_stands s l content = by (first_fault t s.dir s.text (home_of l l)) refl
      where
        by : (o : Option FileFault) → first_fault t s.dir s.text (home_of l l) ≡ o → IfOk (unless_full index o (with_content t s (home_of l l) content)) IsSoundForest
        by None e = content_made t f s (home_of l l) e content
        by (Some fault) e = tt

    item_stands : IfOk (with_item names index t ms) IsSoundForest
    item_stands =
        after (member_as (codes "path") as_str ms) (λ path. spot_of index t path >>= λ s. made_at s) IsSoundForest
        (λ path. after (spot_of index t path) (λ s. made_at s) IsSoundForest
        (λ s. after (label_in names ms) (λ l. made_with s l) IsSoundForest
        (λ l. after (content_of (get_member (codes "dir") ms) (get_member (codes "text") ms)) (λ content. made s l content) IsSoundForest (made_stands s l))))

  items_stand : (index : ℕ) (t : Tree) → IsSoundForest t → (ds : Items) → IfOk (with_items names index t ds) IsSoundForest
  items_stand index t f no_items = f
  items_stand index t f (item d ds) =
      after (formed (codes "tree") (as_object d)) (λ ms. with_item names index t ms >>= λ u. with_items names (suc index) u ds) IsSoundForest
      (λ ms. onward (with_item names index t ms) IsSoundForest (item_stands index t f ms) (λ u. with_items names (suc index) u ds) IsSoundForest (λ u h. items_stand (suc index) u h ds))

  pub tree_stands : (ms : Members) → IfOk (tree_in names ms) IsSoundForest
  tree_stands ms = after (member_as (codes "tree") as_array ms) (λ items. with_items names 0 root_alone items) IsSoundForest (λ items. items_stand 0 root_alone root_stands items)

-- ---- version 3: the counters

abbrev Within : Counts → Type 0
Within counts = AreWithin 65536 counts

-- within the limit, and the root is counted
record CountsRoot (counts : Counts) : Type 0 where
  within : Within counts
  root : has_made counts public_home ≡ true

few_tested : (n : ℕ) → (nat_le 1 n && nat_le n 65536) ≡ true → n ≤ 65536
few_tested n e = by (nat_le 1 n) (nat_le n 65536) refl e
  where
    by : (a b : Bool) → nat_le n 65536 ≡ b → (a && b) ≡ true → n ≤ 65536
    by true true same both = grind (arith, nat_tests)
    by true false same both = cc
    by false b same both = cc

next_few : (ms : Members) → IfOk (next_in ms) (λ (n : ℕ). n ≤ 65536)
next_few ms =
    member_good (λ (n : ℕ). n ≤ 65536) (codes "next") (λ d. option_and_then (λ n. only_if (nat_le 1 n && nat_le n 65536) n) (whole d)) ms
    (λ d. option_good (λ (n : ℕ). n ≤ 65536) (λ n. only_if (nat_le 1 n && nat_le n 65536) n) (whole d) (λ n. tested (λ (n : ℕ). n ≤ 65536) (nat_le 1 n && nat_le n 65536) n (few_tested n)))

module _ (names : List Text) where
  module _ (counts : Counts) (within : Within counts) (ms : Members) where
    abbrev counted_by : Home → Reading Counts
    counted_by home = next_in ms >>= λ n. Ok (insert counts home n)

    abbrev counted_at : Label → Label → Reading Counts
    counted_at maker own = new_home counts (home_of maker own) >>= λ home. counted_by home

    home_counted : (home : Home) → IfOk (counted_by home) Within
    home_counted home = onward (next_in ms) (λ (n : ℕ). n ≤ 65536) (next_few ms) (λ n. Ok (insert counts home n)) Within (λ n few. within_insert 65536 counts home n within few)

    item_counted : IfOk (with_count_item names counts ms) Within
    item_counted =
        after (label_as (codes "maker") names ms) (λ maker. label_as (codes "own") names ms >>= λ own. counted_at maker own) Within
        (λ maker. after (label_as (codes "own") names ms) (λ own. counted_at maker own) Within
        (λ own. after (new_home counts (home_of maker own)) (λ home. counted_by home) Within home_counted))

  items_counted : (counts : Counts) → Within counts → (ds : Items) → IfOk (with_counts names counts ds) Within
  items_counted counts within no_items = within
  items_counted counts within (item d ds) =
      after (formed (codes "counts") (as_object d)) (λ ms. with_count_item names counts ms >>= λ more. with_counts names more ds) Within
      (λ ms. onward (with_count_item names counts ms) Within (item_counted counts within ms) (λ more. with_counts names more ds) Within (λ more h. items_counted more h ds))

  all_counted : (ms : Members) → IfOk (member_as (codes "counts") as_array ms >>= with_counts names empty) Within
  all_counted ms = after (member_as (codes "counts") as_array ms) (with_counts names empty) Within (λ items. items_counted empty (within_none 65536) items)

  root_within : (ms : Members) → IfOk (counts_in names ms) CountsRoot
  root_within ms =
      onward (member_as (codes "counts") as_array ms >>= with_counts names empty) Within (all_counted ms) with_root CountsRoot
      (λ counts within. formed_good CountsRoot (codes "counts") (only_if (has_made counts public_home) counts) (tested CountsRoot (has_made counts public_home) counts (λ e. record { within = within; root = e })))

-- ---- the root, with other counters

module _ (counts : Counts) (c : CountsRoot counts) where
  root_below : 0 < count_in counts public_home
  root_below = let e = c.root in grind (arith, nat_tests)

  same_lives : (k : EntryKind) (n : Name) → IsTrue (lives_as k root_alone n) → IsTrue (lives_as k (root_counted counts) n)
  same_lives File n h = h
  same_lives Dir n h = h

  root_counted_stands : IsSoundForest (root_counted counts)
  root_counted_stands =
      record {
        sound = record {
          counted = (counted_none (List ℕ) counts, counted_put empty counts root_alone.root [] (counted_none Entries counts) root_below);
          within = c.within;
          rooted = sound_root.rooted;
          apart = sound_root.apart;
          listed = λ dir. good_in root_alone (entries_at root_alone dir) (root_counted counts) same_lives (sound_root.listed dir);
        };
        forest = forest_counts root_alone counts forest_root;
      }

-- ---- the items, which say their names

record IsOpen (t : Tree) (n : Name) : Type 0 where
  below : n.n < count_in t.counts (home_of n.maker n.own)
  no_file : lives_as File t n ≡ false
  no_dir : lives_as Dir t n ≡ false

open_tested : (t : Tree) (n : Name) → is_open t n ≡ true → IsOpen t n
open_tested t n = by (nat_lt n.n (count_in t.counts (home_of n.maker n.own))) (lives_as File t n) (lives_as Dir t n) refl refl refl
  where
    by : (a b c : Bool) → nat_lt n.n (count_in t.counts (home_of n.maker n.own)) ≡ a → lives_as File t n ≡ b → lives_as Dir t n ≡ c → (a && (not b && not c)) ≡ true → IsOpen t n
    by true false false e f g h = record { below = grind (arith, nat_tests); no_file = f; no_dir = g }
    by true false true e f g h = cc
    by true true c e f g h = cc
    by false b c e f g h = cc

module _ (t : Tree) (f : IsSoundForest t) (s : Spot) (n : Name) (is : IsOpen t n) (clear : place_fault t s.dir s.text ≡ None) where
  dir_placed : IsSoundForest (placed t s.dir s.text Dir n)
  dir_placed =
      record {
        sound = sound_placed_dir t f.sound s.dir n s.text is.below (fine t s.dir s.text 0 clear) (new t s.dir s.text 0 clear) (room t s.dir s.text 0 clear f.sound) is.no_file;
        forest = forest_placed t s.dir s.text Dir n f.sound f.forest is.no_file is.no_dir;
      }

  file_placed : IsSoundForest (placed t s.dir s.text File n)
  file_placed =
      record {
        sound = sound_placed_file t f.sound s.dir n s.text is.below (fine t s.dir s.text 0 clear) (new t s.dir s.text 0 clear) (room t s.dir s.text 0 clear f.sound) is.no_dir;
        forest = forest_placed t s.dir s.text File n f.sound f.forest is.no_file is.no_dir;
      }

  content_placed : (content : Content) → IsSoundForest (with_named t s n content)
  content_placed a_dir = dir_placed
  content_placed (a_text bytes) = more_bytes (placed t s.dir s.text File n) file_placed n bytes

abbrev numbered_as : Tree → Home → ℕ → Option Name
numbered_as t home n = only_if (is_open t (name_of home n)) (name_of home n)

name_open : (t : Tree) (home : Home) (ms : Members) → IfOk (name_in t home ms) (IsOpen t)
name_open t home ms =
    member_good (IsOpen t) (codes "number") (λ d. option_and_then (numbered_as t home) (whole d)) ms
    (λ d. option_good (IsOpen t) (numbered_as t home) (whole d) (λ n. tested (IsOpen t) (is_open t (name_of home n)) (name_of home n) (open_tested t (name_of home n))))

module _ (names : List Text) where
  module _ (index : ℕ) (t : Tree) (f : IsSoundForest t) (ms : Members) where
    abbrev put : Spot → Name → Content → Reading Tree
    put s n content = unless_full index (place_fault t s.dir s.text) (with_named t s n content)

    abbrev put_with : Spot → Name → Reading Tree
    put_with s n = hex_content_of (get_member (codes "dir") ms) (get_member (codes "hex") ms) >>= λ content. put s n content

    abbrev put_in : Spot → Home → Reading Tree
    put_in s home = name_in t home ms >>= λ n. put_with s n

    abbrev put_at : Spot → Reading Tree
    put_at s = label_in names ms >>= λ own. label_as (codes "maker") names ms >>= λ maker. put_in s (home_of maker own)

    put_stands : (s : Spot) (n : Name) → IsOpen t n → (content : Content) → IfOk (put s n content) IsSoundForest
    put_stands s n is content = by (place_fault t s.dir s.text) refl
      where
        by : (o : Option FileFault) → place_fault t s.dir s.text ≡ o → IfOk (unless_full index o (with_named t s n content)) IsSoundForest
        by None e = content_placed t f s n is e content
        by (Some fault) e = tt

    home_stands : (s : Spot) (home : Home) → IfOk (put_in s home) IsSoundForest
    home_stands s home =
        onward (name_in t home ms) (IsOpen t) (name_open t home ms) (λ n. put_with s n) IsSoundForest
        (λ n is. after (hex_content_of (get_member (codes "dir") ms) (get_member (codes "hex") ms)) (λ content. put s n content) IsSoundForest (put_stands s n is))

    spot_stands : (s : Spot) → IfOk (put_at s) IsSoundForest
    spot_stands s =
        after (label_in names ms) (λ own. label_as (codes "maker") names ms >>= λ maker. put_in s (home_of maker own)) IsSoundForest
        (λ own. after (label_as (codes "maker") names ms) (λ maker. put_in s (home_of maker own)) IsSoundForest (λ maker. home_stands s (home_of maker own)))

    numbered_item_stands : IfOk (with_numbered_item names index t ms) IsSoundForest
    numbered_item_stands = after (member_as (codes "path") as_str ms) (λ path. spot_of index t path >>= λ s. put_at s) IsSoundForest (λ path. after (spot_of index t path) (λ s. put_at s) IsSoundForest spot_stands)

  numbered_items_stand : (index : ℕ) (t : Tree) → IsSoundForest t → (ds : Items) → IfOk (with_numbered_items names index t ds) IsSoundForest
  numbered_items_stand index t f no_items = f
  numbered_items_stand index t f (item d ds) =
      after (formed (codes "tree") (as_object d)) (λ ms. with_numbered_item names index t ms >>= λ u. with_numbered_items names (suc index) u ds) IsSoundForest
      (λ ms. onward (with_numbered_item names index t ms) IsSoundForest (numbered_item_stands index t f ms) (λ u. with_numbered_items names (suc index) u ds) IsSoundForest (λ u h. numbered_items_stand (suc index) u h ds))

  numbered_tree_stands : (ms : Members) (counts : Counts) → CountsRoot counts → IfOk (numbered_tree_in names counts ms) IsSoundForest
  numbered_tree_stands ms counts c =
      after (member_as (codes "tree") as_array ms) (with_numbered_items names 0 (root_counted counts)) IsSoundForest (λ items. numbered_items_stand 0 (root_counted counts) (root_counted_stands counts c) items)

  pub numbered_stands : (ms : Members) → IfOk (numbered_in names ms) IsSoundForest
  numbered_stands ms = onward (counts_in names ms) CountsRoot (root_within names ms) (λ counts. numbered_tree_in names counts ms) IsSoundForest (numbered_tree_stands ms)

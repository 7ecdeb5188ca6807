-- The files and directories of a document of version 3 are sound at each step, and what stands in them lives.
use Rattle.std.proofs.Common.{◌≡◌, ℕ, suc, ◌<◌, ◌≤◌, Bool, true, false, cond, List, [], ◌∷◌, length, Option, Some, None, Ok, refl, sym, ap, subst, ◌∙◌, arith}
use Rattle.std.specs.Prelude.{IfOk, IsTrue, is_some, not, ◌&&◌, nat_le, nat_lt, codes, option_and_then}
use Rattle.std.specs.List.{AllByRecursion}
use Rattle.std.specs.Ordering.{eq_by_cmp}
use Rattle.std.specs.Cmp.{Equal-is}
use Rattle.std.specs.FinMap.{FinMap, empty, get, insert, contains_key, get-empty, get-insert}
use Rattle.std.proofs.lemmas.Bool.Decides.{nat_tests}
use Rattle.std.proofs.lemmas.Bool.{and_parts, not-true}
use Rattle.serde_json.specs.Data.{Items, no_items, item, Members}
use Rattle.serde_json.specs.Find.{get_member, as_str, as_array, as_object}
use Rattle.flow_labels.specs.declared.Label.{Label}
use Rattle.flow_labels.specs.TwoLists.{Text}
use Rattle.lam_value.specs.declared.names.Name.{Name}
use Rattle.lam_value.specs.Names.{name_cmp}
use Rattle.lam_value.specs.Homes.{Home, Counts, home_cmp, home_of, name_of, count_in, AreWithin}
use Rattle.lam_value.proofs.Keys.{home_total, home_exact}
use Rattle.lam_value.proofs.CountLemmas.{within_insert, within_none, counted_none, counted_put}
use Rattle.labelled_files.specs.declared.files.FileFault.{FileFault}
use Rattle.labelled_files.specs.declared.directory.EntryKind.{EntryKind}
use Rattle.labelled_files.specs.declared.directory.EntryKind.TheVariants as kind
use Rattle.labelled_files.specs.declared.directory.Target.{Target}
use Rattle.labelled_files.specs.Entries.{Entries}
use Rattle.labelled_files.specs.Trees.{Tree, public_home, root_alone, lives_as, entries_at, place_fault, placed, changed, joined, IsSound}
use Rattle.labelled_files.proofs.SoundLemmas.{good_in, sound_root, sound_placed_file, sound_placed_dir}
use Rattle.labelled_files.proofs.MakeLemmas.{fine, new, room}
use Rattle.labelled_pipes.specs.Queues.{no_pipes}
use Rattle.lam_bytecode.specs.Codes.{CodeTree}
use Rattle.lam_machine_terms.specs.Worlds.{World}
use Rattle.lam_machine_terms.specs.Valid.{IsKnownName, AreKnownNames, AreKnownHomes, EntryLives, StoresLive}
use Rattle.lam_machine_means.proofs.GrowLemmas.{Keeps, insert_keeps}
use Rattle.lam_machine_means.proofs.StoreLemmas.{all_on, all_append, there_now, Each, put_each, put_known}
use Rattle.world_doc_terms.specs.Breaks.{Reading, ◌>>=◌, only_if, formed, member_as}
use Rattle.world_doc_terms.specs.Tags.{FirstTags, label_as, label_in}
use Rattle.world_doc_terms.specs.Stores.{Spot, spot_of, Content, a_dir, a_text, unless_full}
use Rattle.world_doc_terms.specs.Numbered.{whole, next_in, has_made, new_home, with_count_item, with_counts, with_root, counts_in, root_counted, hex_content_of, is_open, name_in, with_named, with_numbered_item, with_numbered_items, numbered_tree_in, numbered_in}
use Rattle.world_doc_laws.proofs.LabelLemmas.{IsBelow}
use Rattle.world_doc_laws.proofs.ReadLemmas.{after, onward, formed_good, member_good, tested, option_good, AreFew, label_as_known, label_known}
use Rattle.world_doc_laws.proofs.StoreLemmas.{staged, GoodTree, root_good, more_good}

-- ---- tests

three : (a b c : Bool) → (a && (not b && not c)) ≡ true → (a ≡ true) × ((b ≡ false) × (c ≡ false))
three a b c e = let p = and_parts a (not b && not c) e in let q = and_parts (not b) (not c) p.1 in (p.0, (not-true b q.0, not-true c q.1))

-- ---- the counters

-- no home has made more than it may, and the tags of each are below a number
record GoodCounts (n : ℕ) (counts : Counts) : Type 0 where
  within : AreWithin 65536 counts
  known : (h : Home) → IsTrue (contains_key counts h) → IsBelow n h.maker × IsBelow n h.own

-- and the root's home has made one at least
record GoodRoot (n : ℕ) (counts : Counts) : Type 0 where
  good : GoodCounts n counts
  root : has_made counts public_home ≡ true

module _ (names : List Text) where
  abbrev Counted : Counts → Type 0
  Counted counts = GoodCounts (length names) counts

  none_counted : Counted empty
  none_counted = record { within = within_none 65536; known = λ h there. let no : false ≡ true = sym (ap is_some (get-empty home_cmp h)) ∙ there in cc }

  one_counted : (counts : Counts) → Counted counts → (home : Home) → IsBelow (length names) home.maker × IsBelow (length names) home.own → (n : ℕ) → n ≤ 65536 → Counted (insert counts home n)
  one_counted counts g home below n few =
      record { within = within_insert 65536 counts home n g.within few; known = λ h there. by h (eq_by_cmp home_cmp h home) refl (sym (ap is_some (get-insert home_total counts home n h)) ∙ there) }
    where
      by : (h : Home) (b : Bool) → eq_by_cmp home_cmp h home ≡ b → is_some (cond b (Some n) (get counts h)) ≡ true → IsBelow (length names) h.maker × IsBelow (length names) h.own
      by h true e l = subst (λ (k : Home). IsBelow (length names) k.maker × IsBelow (length names) k.own) (sym (home_exact h home ((Equal-is (home_cmp h home)).0 e))) below
      by h false e l = g.known h l

  few_tested : (n : ℕ) → (nat_le 1 n && nat_le n 65536) ≡ true → n ≤ 65536
  few_tested n e = let second : nat_le n 65536 ≡ true = (and_parts (nat_le 1 n) (nat_le n 65536) e).1 in grind (arith, nat_tests)

  next_few : (ms : Members) → IfOk (next_in ms) (λ (n : ℕ). n ≤ 65536)
  next_few ms =
      member_good (λ (n : ℕ). n ≤ 65536) (codes "next") (λ d. option_and_then (λ n. only_if (nat_le 1 n && nat_le n 65536) n) (whole d)) ms
      (λ d. option_good (λ (n : ℕ). n ≤ 65536) (λ n. only_if (nat_le 1 n && nat_le n 65536) n) (whole d) (λ n. tested (λ (n : ℕ). n ≤ 65536) (nat_le 1 n && nat_le n 65536) n (few_tested n)))

  module _ (counts : Counts) (g : Counted counts) (ms : Members) where
    abbrev counted_by : Home → Reading Counts
    counted_by home = next_in ms >>= λ n. Ok (insert counts home n)

    abbrev counted_at : Label → Label → Reading Counts
    counted_at maker own = new_home counts (home_of maker own) >>= λ home. counted_by home

    home_counted : (home : Home) → IsBelow (length names) home.maker × IsBelow (length names) home.own → IfOk (counted_by home) Counted
    home_counted home below = onward (next_in ms) (λ (n : ℕ). n ≤ 65536) (next_few ms) (λ n. Ok (insert counts home n)) Counted (λ n few. one_counted counts g home below n few)

    abbrev Below : Home → Type 0
    Below h = IsBelow (length names) h.maker × IsBelow (length names) h.own

    labels_counted : (maker own : Label) → IsBelow (length names) maker → IsBelow (length names) own → IfOk (counted_at maker own) Counted
    labels_counted maker own a b =
        onward (new_home counts (home_of maker own)) Below
        (formed_good Below (codes "counts") (only_if (not (has_made counts (home_of maker own))) (home_of maker own)) (tested Below (not (has_made counts (home_of maker own))) (home_of maker own) (λ e. (a, b))))
        (λ home. counted_by home) Counted home_counted

    item_counted : IfOk (with_count_item names counts ms) Counted
    item_counted =
        onward (label_as (codes "maker") names ms) (IsBelow (length names)) (label_as_known names (codes "maker") ms) (λ maker. label_as (codes "own") names ms >>= λ own. counted_at maker own) Counted
        (λ maker a. onward (label_as (codes "own") names ms) (IsBelow (length names)) (label_as_known names (codes "own") ms) (λ own. counted_at maker own) Counted
        (λ own b. labels_counted maker own a b))

  items_counted : (counts : Counts) → Counted counts → (ds : Items) → IfOk (with_counts names counts ds) Counted
  items_counted counts g no_items = g
  items_counted counts g (item d ds) =
      after (formed (codes "counts") (as_object d)) (λ ms. with_count_item names counts ms >>= λ more. with_counts names more ds) Counted
      (λ ms. onward (with_count_item names counts ms) Counted (item_counted counts g ms) (λ more. with_counts names more ds) Counted (λ more h. items_counted more h ds))

  all_counted : (ms : Members) → IfOk (member_as (codes "counts") as_array ms >>= with_counts names empty) Counted
  all_counted ms = after (member_as (codes "counts") as_array ms) (with_counts names empty) Counted (λ items. items_counted empty none_counted items)

  counts_good : (ms : Members) → IfOk (counts_in names ms) (GoodRoot (length names))
  counts_good ms =
      onward (member_as (codes "counts") as_array ms >>= with_counts names empty) Counted (all_counted ms) with_root (GoodRoot (length names))
      (λ counts g. formed_good (GoodRoot (length names)) (codes "counts") (only_if (has_made counts public_home) counts) (tested (GoodRoot (length names)) (has_made counts public_home) counts (λ e. record { good = g; root = e })))

-- ---- the root

module _ (counts : Counts) (within : AreWithin 65536 counts) (some : has_made counts public_home ≡ true) where
  below : 0 < count_in counts public_home
  below = grind (arith, nat_tests)

  same_lives : (k : EntryKind) (n : Name) → IsTrue (lives_as k root_alone n) → IsTrue (lives_as k (root_counted counts) n)
  same_lives kind.File n h = h
  same_lives kind.Dir n h = h

  sound_root_counted : IsSound (root_counted counts)
  sound_root_counted =
      record {
        counted = (counted_none (List ℕ) counts, counted_put empty counts root_alone.root [] (counted_none Entries counts) below);
        within = within;
        rooted = sound_root.rooted;
        apart = sound_root.apart;
        listed = λ dir. good_in root_alone (entries_at root_alone dir) (root_counted counts) same_lives (sound_root.listed dir);
      }

-- ---- maps

module _ {X : Type 0} (m : FinMap name_cmp X) (n : Name) (f : X → X) where
  changed_each : (P : X → Type 0) → Each P m → ((x : X) → P x → P (f x)) → (o : Option X) → get m n ≡ o → Each P (changed o m n f)
  changed_each P all kept None e = all
  changed_each P all kept (Some x) e = put_each P m all n (f x) (kept x (all n x e))

  changed_known : (w : World) → AreKnownNames w m → (o : Option X) → get m n ≡ o → AreKnownNames w (changed o m n f)
  changed_known w all None e = all
  changed_known w all (Some x) e = put_known w m n (f x) all (all n (ap is_some e))

  changed_keeps : (o : Option X) → Keeps m (changed o m n f)
  changed_keeps None q h = h
  changed_keeps (Some x) q h = insert_keeps m n (f x) q h

module _ (code : CodeTree) (tags : FirstTags) where
  abbrev names_of : List Text
  names_of = tags.names

  abbrev world_with : Tree → World
  world_with t = staged tags t no_pipes []

  abbrev Good : Tree → Type 0
  Good t = GoodTree code tags t

  abbrev Stand : Tree → Entries → Type 0
  Stand t es = AllByRecursion (EntryLives (world_with t)) es

  -- other files, of which all that is said lives
  live_with : (t u : Tree) → StoresLive (world_with t) → Each (Stand u) u.dirs → AreKnownNames (world_with u) u.dirs → AreKnownNames (world_with u) u.files → AreKnownHomes (world_with u) u.counts → StoresLive (world_with u)
  live_with t u s entries dirs files homes =
      record {
        slots = λ n vs e. let no : None ≡ Some vs = sym (get-empty name_cmp n) ∙ e in absurd cc;
        entries = entries;
        messages = λ n ms e. let no : None ≡ Some ms = sym (get-empty name_cmp n) ∙ e in absurd cc;
        things = s.things;
        held = s.held;
        dirs = dirs;
        files = files;
        pipes = s.pipes;
        heap_homes = s.heap_homes;
        file_homes = homes;
        pipe_homes = s.pipe_homes;
      }

  good_with : (t u : Tree) → Good t → IsSound u → u.root ≡ root_alone.root → StoresLive (world_with u) → Good u
  good_with t u g sound root live = record { sound = record { heap = g.sound.heap; monitors = g.sound.monitors; files = sound; root = root; pipes = g.sound.pipes }; live = live }

  -- ---- the root

  root_counted_good : AreFew tags → (counts : Counts) → GoodRoot (length names_of) counts → Good (root_counted counts)
  root_counted_good few counts h =
      let g = root_good code tags few in
      good_with root_alone (root_counted counts) g (sound_root_counted counts h.good.within h.root) refl
      (live_with root_alone (root_counted counts) g.live (λ n es e. all_on (entry_on counts) es (g.live.entries n es e)) g.live.dirs g.live.files h.good.known)
    where
      entry_on : (counts : Counts) (x : List ℕ × Target) → EntryLives (world_with root_alone) x → EntryLives (world_with (root_counted counts)) x
      entry_on counts x l = (l.0, on x.1.kind x.1.name l.1)
        where
          on : (k : EntryKind) (n : Name) → IsTrue (lives_as k root_alone n) → IsTrue (lives_as k (root_counted counts) n)
          on kind.File n h = h
          on kind.Dir n h = h

  -- ---- one more

  module _ (t u : Tree) (files : Keeps t.files u.files) (dirs : Keeps t.dirs u.dirs) where
    kind_on : (k : EntryKind) (n : Name) → IsTrue (lives_as k t n) → IsTrue (lives_as k u n)
    kind_on kind.File n h = files n h
    kind_on kind.Dir n h = dirs n h

    stand_on : Each (Stand t) t.dirs → Each (Stand u) t.dirs
    stand_on all n es e = all_on (λ x l. (l.0, kind_on x.1.kind x.1.name l.1)) es (all n es e)

    -- an entry more in each, which leads to what lives
    stands_joined : (text : List ℕ) (k : EntryKind) (n : Name) → IsKnownName (world_with u) n → IsTrue (lives_as k u n) → (es : Entries) → Stand u es → Stand u (joined text k n es)
    stands_joined text k n known lives es h = all_append (EntryLives (world_with u)) es ((text, record { kind = k; name = n }) ∷ []) h ((known, lives), tt)

  module _ (t : Tree) (g : Good t) (s : Spot) (n : Name) (known : IsBelow (length names_of) n.maker × IsBelow (length names_of) n.own) (open_name : is_open t n ≡ true) (clear : place_fault t s.dir s.text ≡ None) where
    tests : (nat_lt n.n (count_in t.counts (home_of n.maker n.own)) ≡ true) × ((lives_as kind.File t n ≡ false) × (lives_as kind.Dir t n ≡ false))
    tests = three (nat_lt n.n (count_in t.counts (home_of n.maker n.own))) (lives_as kind.File t n) (lives_as kind.Dir t n) open_name

    given : n.n < count_in t.counts (home_of n.maker n.own)
    given = let first : nat_lt n.n (count_in t.counts (home_of n.maker n.own)) ≡ true = tests.0 in grind (arith, nat_tests)

    sound : IsSound t
    sound = g.sound.files

    file_good : Good (placed t s.dir s.text kind.File n)
    file_good =
        let u = placed t s.dir s.text kind.File n in
        let all = stand_on t u (insert_keeps t.files n []) (changed_keeps t.dirs s.dir (joined s.text kind.File n) (get t.dirs s.dir)) g.live.entries in
        let lives : IsTrue (lives_as kind.File u n) = ap is_some (there_now t.files n []) in
        good_with t u g (sound_placed_file t sound s.dir n s.text given (fine t s.dir s.text 0 clear) (new t s.dir s.text 0 clear) (room t s.dir s.text 0 clear sound) tests.1.1) g.sound.root
        (live_with t u g.live
        (changed_each t.dirs s.dir (joined s.text kind.File n) (Stand u) all (stands_joined t u (insert_keeps t.files n []) (changed_keeps t.dirs s.dir (joined s.text kind.File n) (get t.dirs s.dir)) s.text kind.File n known lives) (get t.dirs s.dir) refl)
        (changed_known t.dirs s.dir (joined s.text kind.File n) (world_with u) g.live.dirs (get t.dirs s.dir) refl)
        (put_known (world_with u) t.files n [] g.live.files known) g.live.file_homes)

    dir_good : Good (placed t s.dir s.text kind.Dir n)
    dir_good =
        let u = placed t s.dir s.text kind.Dir n in
        let more = changed (get t.dirs s.dir) t.dirs s.dir (joined s.text kind.Dir n) in
        let keeps : Keeps t.dirs u.dirs = λ q h. insert_keeps more n [] q (changed_keeps t.dirs s.dir (joined s.text kind.Dir n) (get t.dirs s.dir) q h) in
        let all = stand_on t u (λ q h. h) keeps g.live.entries in
        let lives : IsTrue (lives_as kind.Dir u n) = ap is_some (there_now more n []) in
        good_with t u g (sound_placed_dir t sound s.dir n s.text given (fine t s.dir s.text 0 clear) (new t s.dir s.text 0 clear) (room t s.dir s.text 0 clear sound) tests.1.0) g.sound.root
        (live_with t u g.live
        (put_each (Stand u) more (changed_each t.dirs s.dir (joined s.text kind.Dir n) (Stand u) all (stands_joined t u (λ q h. h) keeps s.text kind.Dir n known lives) (get t.dirs s.dir) refl) n [] tt)
        (put_known (world_with u) more n [] (changed_known t.dirs s.dir (joined s.text kind.Dir n) (world_with u) g.live.dirs (get t.dirs s.dir) refl) known) g.live.files g.live.file_homes)

    content_good : (content : Content) → Good (with_named t s n content)
    content_good a_dir = dir_good
    content_good (a_text bytes) = more_good code tags (placed t s.dir s.text kind.File n) file_good n bytes

  -- ---- the items

  abbrev IsOpenName : Tree → Name → Type 0
  IsOpenName t n = (is_open t n ≡ true) × (IsBelow (length names_of) n.maker × IsBelow (length names_of) n.own)

  abbrev numbered_as : Tree → Home → ℕ → Option Name
  numbered_as t home n = only_if (is_open t (name_of home n)) (name_of home n)

  name_open : (t : Tree) (maker own : Label) → IsBelow (length names_of) maker → IsBelow (length names_of) own → (ms : Members) → IfOk (name_in t (home_of maker own) ms) (IsOpenName t)
  name_open t maker own a b ms =
      member_good (IsOpenName t) (codes "number") (λ d. option_and_then (numbered_as t (home_of maker own)) (whole d)) ms
      (λ d. option_good (IsOpenName t) (numbered_as t (home_of maker own)) (whole d) (λ n. tested (IsOpenName t) (is_open t (name_of (home_of maker own) n)) (name_of (home_of maker own) n) (λ e. (e, (a, b)))))

  module _ (index : ℕ) (t : Tree) (g : Good t) (ms : Members) where
    abbrev put : Spot → Name → Content → Reading Tree
    put s n content = unless_full index (place_fault t s.dir s.text) (with_named t s n content)

    abbrev at_name : Spot → Name → Reading Tree
    at_name s n = hex_content_of (get_member (codes "dir") ms) (get_member (codes "hex") ms) >>= λ content. put s n content

    abbrev at_spot : Spot → Reading Tree
    at_spot s = label_in names_of ms >>= λ own. label_as (codes "maker") names_of ms >>= λ maker. name_in t (home_of maker own) ms >>= λ n. at_name s n

    put_good : (s : Spot) (n : Name) → IsOpenName t n → (content : Content) → IfOk (put s n content) Good
    put_good s n h content = by (place_fault t s.dir s.text) refl
      where
        by : (o : Option FileFault) → place_fault t s.dir s.text ≡ o → IfOk (unless_full index o (with_named t s n content)) Good
        by None e = content_good t g s n h.1 h.0 e content
        by (Some f) e = tt

    spot_good : (s : Spot) → IfOk (at_spot s) Good
    spot_good s =
        onward (label_in names_of ms) (IsBelow (length names_of)) (label_known names_of ms) (λ own. label_as (codes "maker") names_of ms >>= λ maker. name_in t (home_of maker own) ms >>= λ n. at_name s n) Good
        (λ own b. onward (label_as (codes "maker") names_of ms) (IsBelow (length names_of)) (label_as_known names_of (codes "maker") ms) (λ maker. name_in t (home_of maker own) ms >>= λ n. at_name s n) Good
        (λ maker a. onward (name_in t (home_of maker own) ms) (IsOpenName t) (name_open t maker own a b ms) (λ n. at_name s n) Good
        (λ n h. after (hex_content_of (get_member (codes "dir") ms) (get_member (codes "hex") ms)) (λ content. put s n content) Good (put_good s n h))))

    item_good : IfOk (with_numbered_item names_of index t ms) Good
    item_good = after (member_as (codes "path") as_str ms) (λ path. spot_of index t path >>= λ s. at_spot s) Good (λ path. after (spot_of index t path) (λ s. at_spot s) Good spot_good)

  items_good : (index : ℕ) (t : Tree) → Good t → (ds : Items) → IfOk (with_numbered_items names_of index t ds) Good
  items_good index t g no_items = g
  items_good index t g (item d ds) =
      after (formed (codes "tree") (as_object d)) (λ ms. with_numbered_item names_of index t ms >>= λ u. with_numbered_items names_of (suc index) u ds) Good
      (λ ms. onward (with_numbered_item names_of index t ms) Good (item_good index t g ms) (λ u. with_numbered_items names_of (suc index) u ds) Good (λ u h. items_good (suc index) u h ds))

  tree_good : AreFew tags → (ms : Members) (counts : Counts) → GoodRoot (length names_of) counts → IfOk (numbered_tree_in names_of counts ms) Good
  tree_good few ms counts h = after (member_as (codes "tree") as_array ms) (with_numbered_items names_of 0 (root_counted counts)) Good (λ items. items_good 0 (root_counted counts) (root_counted_good few counts h) items)

  pub numbered_good : AreFew tags → (ms : Members) → IfOk (numbered_in names_of ms) (GoodTree code tags)
  numbered_good few ms = onward (counts_in names_of ms) (GoodRoot (length names_of)) (counts_good names_of ms) (λ counts. numbered_tree_in names_of counts ms) Good (tree_good few ms)

-- Files as a whole against what is seen of them.
use Rattle.std.proofs.Common.{◌≡◌, ◌+◌, ◌<◌, Bool, true, false, cond, ℕ, List, [], Some, None, is_some, sym, ap, subst, ◌∙◌, arith}
use Rattle.std.specs.Map.{lookup}
use Rattle.std.specs.FinMap.{get, insert}
use Rattle.lam_value.specs.declared.names.Name.{Name}
use Rattle.lam_value.specs.Homes.{Home, Counts, home_of, name_of, count_in, counted, raised}
use Rattle.std.specs.Prelude.{IsTrue, nat_lt}
use Rattle.std.proofs.lemmas.Bool.Decides.{nat_tests}
use Rattle.lam_value.specs.Names.{name_cmp}
use Rattle.lam_value.proofs.Keys.{name_eq, name_total, name_exact, name_ties}
use Rattle.lam_value.proofs.SameLemmas.{seen_where, where_seen, seen_same_map, same_map_alike}
use Rattle.labelled_files.specs.declared.directory.Directory.{Directory}
use Rattle.labelled_files.specs.declared.directory.EntryKind.TheVariants.{File, Dir}
use Rattle.labelled_files.specs.declared.contents.Contents.{Contents}
use Rattle.labelled_files.specs.Entries.{Entries}
use Rattle.labelled_files.specs.Trees.{Tree, entries_at, bytes_at, changed_at, joined, with_file, with_dir, placed, with_count}
use Rattle.labelled_files.specs.Seen.{shown, held, dirs_of, files_of, at, tree_of, SameDirs, SameFiles}
use Rattle.labelled_files.proofs.TreeLemmas.{lives_seen, none_there, some_there}

-- one more than a home has made, counted
raised_next : (m : Counts) (h : Home) → raised m h (count_in m h + 1) ≡ counted m h
raised_next m h = ap (λ b. cond b (insert m h (count_in m h + 1)) m) (more (count_in m h))
  where
    more : (k : ℕ) → nat_lt k (k + 1) ≡ true
    more k = grind (arith, nat_tests)

-- what its home has made is counted already
raised_below : (m : Counts) (h : Home) (n : ℕ) → n < count_in m h → raised m h (n + 1) ≡ m
raised_below m h n below = ap (λ b. cond b (insert m h (n + 1)) m) (less (count_in m h) below)
  where
    less : (k : ℕ) → n < k → nat_lt k (n + 1) ≡ false
    less k lt = grind (arith, nat_tests)

module _ (ds : List (Name × Directory)) (fs : List (Name × Contents)) (counts : Counts) (root : Name) (t : Tree) (seen : tree_of ds fs counts root ≡ t) where
  pub dir_lives : (n : Name) → is_some (lookup (name_eq n) ds) ≡ is_some (get t.dirs n)
  dir_lives n = lives_seen shown ds n ∙ ap (λ (m : Tree). is_some (get m.dirs n)) seen

  pub file_lives : (n : Name) → is_some (lookup (name_eq n) fs) ≡ is_some (get t.files n)
  file_lives n = lives_seen held fs n ∙ ap (λ (m : Tree). is_some (get m.files n)) seen

  pub entries_seen : (n : Name) → at ds n ≡ entries_at t n
  entries_seen n = ap (λ (m : Tree). entries_at m n) seen

  pub no_entries : (n : Name) → lookup (name_eq n) ds ≡ None → [] ≡ entries_at t n
  no_entries n e = none_there shown ds n [] e ∙ entries_seen n

  pub the_entries : (n : Name) (d : Directory) → lookup (name_eq n) ds ≡ Some d → shown d ≡ entries_at t n
  the_entries n d e = some_there shown ds n [] d e ∙ entries_seen n

  pub no_bytes : (n : Name) → lookup (name_eq n) fs ≡ None → [] ≡ bytes_at t n
  no_bytes n e = none_there held fs n [] e ∙ ap (λ (m : Tree). bytes_at m n) seen

  pub the_bytes : (n : Name) (c : Contents) → lookup (name_eq n) fs ≡ Some c → held c ≡ bytes_at t n
  the_bytes n c e = some_there held fs n [] c e ∙ ap (λ (m : Tree). bytes_at m n) seen

  pub counts_seen : counts ≡ t.counts
  counts_seen = ap (λ (m : Tree). m.counts) seen

  pub dirs_changed : (ds_now : List (Name × Directory)) (n : Name) (change : Entries → Entries) → dirs_of ds_now ≡ changed_at (dirs_of ds) n change → tree_of ds_now fs counts root ≡ record t { dirs = changed_at t.dirs n change }
  dirs_changed ds_now n change e =
      (λ i. record { dirs = e i; files = files_of fs; counts = counts; root = root }) ∙ ap (λ (m : Tree). record m { dirs = changed_at m.dirs n change }) seen

  pub files_changed : (fs_now : List (Name × Contents)) (n : Name) (change : List ℕ → List ℕ) → files_of fs_now ≡ changed_at (files_of fs) n change → tree_of ds fs_now counts root ≡ record t { files = changed_at t.files n change }
  files_changed fs_now n change e =
      (λ i. record { dirs = dirs_of ds; files = e i; counts = counts; root = root }) ∙ ap (λ (m : Tree). record m { files = changed_at m.files n change }) seen

  pub kept : (ds_now : List (Name × Directory)) (fs_now : List (Name × Contents)) (now : Counts) → dirs_of ds_now ≡ dirs_of ds → files_of fs_now ≡ files_of fs → now ≡ counts → tree_of ds_now fs_now now root ≡ t
  kept ds_now fs_now now d f c = (λ i. record { dirs = d i; files = f i; counts = c i; root = root }) ∙ seen

  -- a home's next name
  pub next_seen : (home : Home) (n : Name) → n ≡ name_of home (count_in t.counts home) → n ≡ name_of home (count_in counts home)
  next_seen home n is = is ∙ sym (ap (λ (m : Tree). name_of home (count_in m.counts home)) seen)

  pub file_made : (ds_now : List (Name × Directory)) (fs_now : List (Name × Contents)) (now : Counts) (dir n : Name) (text : List ℕ) (home : Home) → n ≡ name_of home (count_in counts home)
      → dirs_of ds_now ≡ changed_at (dirs_of ds) dir (joined text File n)
      → files_of fs_now ≡ insert (files_of fs) n []
      → now ≡ raised counts (home_of n.maker n.own) (n.n + 1) → tree_of ds_now fs_now now root ≡ with_file t dir text home
  file_made ds_now fs_now now dir n text home is d f c =
      (λ i. record {
        dirs = (d ∙ ap (λ k. changed_at (dirs_of ds) dir (joined text File k)) is) i;
        files = (f ∙ ap (λ k. insert (files_of fs) k []) is) i;
        counts = (c ∙ ap (λ (k : Name). raised counts (home_of k.maker k.own) (k.n + 1)) is ∙ raised_next counts home) i;
        root = root;
      })
      ∙ ap (λ (m : Tree). with_file m dir text home) seen

  pub dir_made : (ds_now : List (Name × Directory)) (now : Counts) (dir n : Name) (text : List ℕ) (home : Home) → n ≡ name_of home (count_in counts home)
      → dirs_of ds_now ≡ insert (changed_at (dirs_of ds) dir (joined text Dir n)) n []
      → now ≡ raised counts (home_of n.maker n.own) (n.n + 1) → tree_of ds_now fs now root ≡ with_dir t dir text home
  dir_made ds_now now dir n text home is d c =
      (λ i. record {
        dirs = (d ∙ ap (λ k. insert (changed_at (dirs_of ds) dir (joined text Dir k)) k []) is) i;
        files = files_of fs;
        counts = (c ∙ ap (λ (k : Name). raised counts (home_of k.maker k.own) (k.n + 1)) is ∙ raised_next counts home) i;
        root = root;
      })
      ∙ ap (λ (m : Tree). with_dir m dir text home) seen

  pub recounted : (now : Counts) (home : Home) (n : ℕ) → now ≡ raised counts home n → tree_of ds fs now root ≡ with_count t home n
  recounted now home n c = (λ i. record { dirs = dirs_of ds; files = files_of fs; counts = c i; root = root }) ∙ ap (λ (m : Tree). with_count m home n) seen

  -- what was put under a name that its home has made
  module _ (ds_now : List (Name × Directory)) (now : Counts) (dir n : Name) (text : List ℕ) (below : n.n < count_in t.counts (home_of n.maker n.own)) (c : now ≡ raised counts (home_of n.maker n.own) (n.n + 1)) where
    counts_stay : now ≡ counts
    counts_stay = c ∙ raised_below counts (home_of n.maker n.own) n.n (subst (λ (m : Counts). n.n < count_in m (home_of n.maker n.own)) (sym counts_seen) below)

    pub file_placed : (fs_now : List (Name × Contents)) → dirs_of ds_now ≡ changed_at (dirs_of ds) dir (joined text File n) → files_of fs_now ≡ insert (files_of fs) n [] → tree_of ds_now fs_now now root ≡ placed t dir text File n
    file_placed fs_now d f = (λ i. record { dirs = d i; files = f i; counts = counts_stay i; root = root }) ∙ ap (λ (m : Tree). placed m dir text File n) seen

    pub dir_placed : dirs_of ds_now ≡ insert (changed_at (dirs_of ds) dir (joined text Dir n)) n [] → tree_of ds_now fs now root ≡ placed t dir text Dir n
    dir_placed d = (λ i. record { dirs = d i; files = files_of fs; counts = counts_stay i; root = root }) ∙ ap (λ (m : Tree). placed m dir text Dir n) seen

-- ---- two compared
module _ (ds es : List (Name × Directory)) (fs gs : List (Name × Contents)) (counts now : Counts) (root other : Name) (t u : Tree) (one : tree_of ds fs counts root ≡ t) (two : tree_of es gs now other ≡ u) where
  pub same_trees : root ≡ other → counts ≡ now → SameDirs (λ _. true) ds es → SameFiles (λ _. true) fs gs → t ≡ u
  same_trees same_root same_counts dirs files =
      sym one
      ∙ (λ i. record {
        dirs = seen_same_map name_cmp name_eq shown name_total name_exact name_ties ds es dirs i;
        files = seen_same_map name_cmp name_eq held name_total name_exact name_ties fs gs files i;
        counts = same_counts i;
        root = same_root i;
      })
      ∙ two

  pub dirs_same : t ≡ u → SameDirs (λ _. true) ds es
  dirs_same e = same_map_alike name_cmp name_eq shown name_total name_exact name_ties ds es (ap (λ (m : Tree). m.dirs) (one ∙ e ∙ sym two))

  pub files_same : t ≡ u → SameFiles (λ _. true) fs gs
  files_same e = same_map_alike name_cmp name_eq held name_total name_exact name_ties fs gs (ap (λ (m : Tree). m.files) (one ∙ e ∙ sym two))

  pub counts_same : t ≡ u → counts ≡ now
  counts_same e = ap (λ (m : Tree). m.counts) (one ∙ e ∙ sym two)

  pub root_same : t ≡ u → root ≡ other
  root_same e = ap (λ (m : Tree). m.root) (one ∙ e ∙ sym two)

  module _ (sees : Name → Bool) where
    pub dirs_where : SameDirs sees ds es → (q : Name) → IsTrue (sees q) → get t.dirs q ≡ get u.dirs q
    dirs_where alike q s =
        ap (λ (m : Tree). get m.dirs q) (sym one) ∙ seen_where name_cmp name_eq shown name_total name_exact name_ties sees ds es alike q s ∙ ap (λ (m : Tree). get m.dirs q) two

    pub files_where : SameFiles sees fs gs → (q : Name) → IsTrue (sees q) → get t.files q ≡ get u.files q
    files_where alike q s =
        ap (λ (m : Tree). get m.files q) (sym one) ∙ seen_where name_cmp name_eq held name_total name_exact name_ties sees fs gs alike q s ∙ ap (λ (m : Tree). get m.files q) two

    pub where_dirs : ((q : Name) → IsTrue (sees q) → get t.dirs q ≡ get u.dirs q) → SameDirs sees ds es
    where_dirs same =
        where_seen name_cmp name_eq shown name_total name_exact name_ties sees ds es (λ q s. ap (λ (m : Tree). get m.dirs q) one ∙ same q s ∙ ap (λ (m : Tree). get m.dirs q) (sym two))

    pub where_files : ((q : Name) → IsTrue (sees q) → get t.files q ≡ get u.files q) → SameFiles sees fs gs
    where_files same =
        where_seen name_cmp name_eq held name_total name_exact name_ties sees fs gs (λ q s. ap (λ (m : Tree). get m.files q) one ∙ same q s ∙ ap (λ (m : Tree). get m.files q) (sym two))

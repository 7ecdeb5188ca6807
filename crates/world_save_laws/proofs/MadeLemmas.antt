-- The items of a directory make it again, and what it holds.
use Rattle.std.proofs.Common.{◌≡◌, ◌<◌, ℕ, zero, suc, Bool, true, false, cond, List, [], ◌∷◌, ◌++◌, map, length, Option, Some, None, Ok, Err, is_some, refl, sym, ap, subst, ◌∙◌, arith, append_assoc, append-nil, length-append}
use Rattle.std.specs.Prelude.{IsTrue, not, ◌&&◌, nat_eq, nat_lt, codes, option_and_then, if◌then◌else◌}
use Rattle.std.specs.Option.{unwrap_or}
use Rattle.std.specs.List.{AllByRecursion, IsDistinct, flat_map}
use Rattle.std.specs.Map.{lookup, keys_of}
use Rattle.std.specs.FinMap.{get}
use Rattle.std.specs.Cmp.Lexicographic.{nat_list_eq_equiv}
use Rattle.std.proofs.lemmas.Bool.Decides.{nat_tests}
use Rattle.std.proofs.lemmas.List.{map-append}
use Rattle.flow_labels.specs.TwoLists.{Text}
use Rattle.lam_value.specs.declared.names.Name.{Name}
use Rattle.lam_value.specs.Homes.{home_of, count_in}
use Rattle.labelled_files.specs.declared.directory.Target.{Target}
use Rattle.labelled_files.specs.declared.directory.EntryKind.{EntryKind}
use Rattle.labelled_files.specs.declared.directory.EntryKind.TheVariants.{File, Dir}
use Rattle.labelled_files.specs.declared.files.FileFault.{FileFault}
use Rattle.labelled_files.specs.declared.files.FileFault.TheVariants.{BadName, Exists, DirFull}
use Rattle.labelled_files.specs.Entries.{Entries, text_eq, is_entry_name, name_of_kind}
use Rattle.labelled_files.specs.Trees.{Tree, lives_as, entries_at, bytes_at, target_at, place_fault}
use Rattle.world_doc_terms.specs.Breaks.{Reading, ◌>>=◌, only_if, formed}
use Rattle.world_doc_terms.specs.Stores.{Spot, dir_at, unless_full}
use Rattle.world_doc_terms.specs.Numbered.{is_open, with_named}
use Rattle.world_doc_terms.specs.SavedItems.{SavedItem, with_saved_item, with_saved_items}
use Rattle.world_doc_laws.proofs.SavedLemmas.{inside}
use Rattle.world_forest.specs.Forest.{LeadsTo}
use Rattle.world_save_terms.specs.Items.{Item, below, at_entry, items_below}
use Rattle.world_save_laws.specs.TreeLaws.{content_at, saved, IsWhole}
use Rattle.world_save_laws.proofs.WayLemmas.{way, way_below, down, down_more, place, spot_found, down_kept}
use Rattle.world_save_laws.proofs.PutLemmas.{there, IsPut, differ, put_file, put_dir}
use Rattle.world_save_laws.proofs.FrontLemmas.{IsFront, Grows, fresh, new_entry, keeps, lives_on, front_next, dirs_stay, is_new, grown}

-- ---- what is made by items

-- the items make one tree of another, with these entries more in a directory
pub record Makes (t u v : Tree) (items : List Item) (dir : Name) (es : Entries) : Type 0 where
  pub made : (index : ℕ) → with_saved_items index u (map (saved t) items) ≡ Ok v
  pub front : IsFront t v
  pub grows : Grows t dir u v
  pub whole : get v.dirs dir ≡ Some (entries_at u dir ++ es)

-- the directory with a path stands in what was made so far
pub record IsReady (t u : Tree) (path : Text) (dir : Name) : Type 0 where
  pub front : IsFront t u
  pub live : IsTrue (lives_as Dir u dir)
  pub leads : down u t.root (way path) ≡ Some dir

-- items, and after them more items
made_then : (u v w : Tree) (xs ys : List SavedItem) (index : ℕ) → with_saved_items index u xs ≡ Ok v → ((i : ℕ) → with_saved_items i v ys ≡ Ok w) → with_saved_items index u (xs ++ ys) ≡ Ok w
made_then u v w [] ys index first more = ap (λ (z : Tree). with_saved_items index z ys) (inside first) ∙ more index
made_then u v w (x ∷ xs) ys index first more = by (with_saved_item index u x) first (λ z h. made_then z v w xs ys (suc index) h more)
  where
    by : (r : Reading Tree) → (r >>= λ z. with_saved_items (suc index) z xs) ≡ Ok v → ((z : Tree) → with_saved_items (suc index) z xs ≡ Ok v → with_saved_items (suc index) z (xs ++ ys) ≡ Ok w) → (r >>= λ z. with_saved_items (suc index) z (xs ++ ys)) ≡ Ok w
    by (Ok z) h on = on z h
    by (Err e) h on = cc

-- by whether a test holds
by_test : {P : Type 0} (b : Bool) → (b ≡ true → P) → (b ≡ false → P) → P
by_test true f g = f refl
by_test false f g = g refl

grows_then : (t u v w : Tree) (dir : Name) → IsTrue (lives_as Dir u dir) → Grows t dir u v → Grows t dir v w → Grows t dir u w
grows_then t u v w dir live g h =
    record {
      entries = λ d q x l. h.entries d q x (g.entries d q x l);
      dirs = λ d l other. h.dirs d (ap is_some (g.dirs d l other) ∙ l) other ∙ g.dirs d l other;
      files = λ f l. h.files f (ap is_some (g.files f l) ∙ l) ∙ g.files f l;
      new_dirs = λ d l before. by_test (lives_as Dir v d) (λ e. h.dirs d e (not_here d before) ∙ g.new_dirs d e before) (λ e. h.new_dirs d l e);
      new_files = λ f l before. by_test (lives_as File v f) (λ e. h.files f e ∙ g.new_files f e before) (λ e. h.new_files f l e);
    }
  where
    not_here : (d : Name) → lives_as Dir u d ≡ false → d ≡ dir → ⊥
    not_here d before is = let no : true ≡ false = sym live ∙ ap (lives_as Dir u) (sym is) ∙ before in cc

makes_then : (t u v w : Tree) (xs ys : List Item) (dir : Name) (es fs : Entries) → IsTrue (lives_as Dir u dir) → Makes t u v xs dir es → Makes t v w ys dir fs → Makes t u w (xs ++ ys) dir (es ++ fs)
makes_then t u v w xs ys dir es fs live m n =
    record {
      made = λ index. ap (with_saved_items index u) (map-append (saved t) xs ys) ∙ made_then u v w (map (saved t) xs) (map (saved t) ys) index (m.made index) n.made;
      front = n.front;
      grows = grows_then t u v w dir live m.grows n.grows;
      whole = n.whole ∙ ap (λ (o : Option Entries). Some (unwrap_or o [] ++ fs)) m.whole ∙ ap Some (append_assoc (entries_at u dir) es fs);
    }

-- ---- entries of a directory

module _ (P : Text → Type 0) where
  of_middle : (done : Entries) (e : Text × Target) (es : Entries) → AllByRecursion P (keys_of (done ++ e ∷ es)) → P e.0
  of_middle [] e es all = all.0
  of_middle (d ∷ done) e es all = of_middle done e es all.1

-- an entry is found by its name, and not among those before it
pub found_middle : (done : Entries) (e : Text × Target) (es : Entries) → IsDistinct text_eq (keys_of (done ++ e ∷ es)) → (lookup (text_eq e.0) done ≡ None) × (lookup (text_eq e.0) (done ++ e ∷ es) ≡ Some e.1)
unfolding IsDistinct
found_middle [] e es distinct = (refl, ap (λ b. cond b (Some e.1) (lookup (text_eq e.0) es)) (nat_list_eq_equiv.refl e.0))
found_middle (d ∷ done) e es distinct =
    let no : text_eq e.0 d.0 ≡ false = nat_list_eq_equiv.symm e.0 d.0 ∙ of_middle (λ k. text_eq d.0 k ≡ false) done e es distinct.0 in
    let rest = found_middle done e es distinct.1 in
    (ap (λ b. cond b (Some d.1) (lookup (text_eq e.0) done)) no ∙ rest.0, ap (λ b. cond b (Some d.1) (lookup (text_eq e.0) (done ++ e ∷ es))) no ∙ rest.1)

-- ---- one item

module _ (t : Tree) (whole : IsWhole t) where
  module _ (u : Tree) (path : Text) (dir : Name) (ready : IsReady t u path dir) (text : Text) (kind : EntryKind) (n : Name) (leads : LeadsTo t dir text (record { kind = kind; name = n })) (none : target_at u dir text ≡ None) (room : length (entries_at u dir) < 4096) where
    abbrev target : Target
    target = record { kind = kind; name = n }

    abbrev this : Item
    this = record { path = below path text; target = target }

    abbrev next : Tree
    next = with_named u (place text dir) n (content_at t n kind)

    front : IsFront t u
    front = ready.front

    fine : is_entry_name text ≡ true
    fine = ((whole.sound.listed dir).good text target leads).0

    lives : IsTrue (lives_as kind t n)
    lives = whole.forest.lives dir text target leads

    free : (k : EntryKind) → lives_as k u n ≡ false
    free k = fresh t u whole.forest front dir text target leads none k

    counted : (k : EntryKind) → IsTrue (lives_as k t n) → n.n < count_in t.counts (home_of n.maker n.own)
    counted File h = whole.sound.counted.0 n h
    counted Dir h = whole.sound.counted.1 n h

    given : n.n < count_in u.counts (home_of n.maker n.own)
    given = subst (λ c. n.n < count_in c (home_of n.maker n.own)) (sym front.counts) (counted kind lives)

    is_free : is_open u n ≡ true
    is_free =
        let below_count : nat_lt n.n (count_in u.counts (home_of n.maker n.own)) ≡ true = let g = given in grind (arith, nat_tests) in
        ap (λ b. b && (not (lives_as File u n) && not (lives_as Dir u n))) below_count ∙ ap (λ b. not b && not (lives_as Dir u n)) (free File) ∙ ap not (free Dir)

    clear : place_fault u dir text ≡ None
    clear =
        let less : nat_eq (length (entries_at u dir)) 4096 ≡ false = let r = room in grind (arith, nat_tests) in
        ap (λ b. if not b then Some BadName else (if is_some (target_at u dir text) then Some Exists else (if nat_eq (length (entries_at u dir)) 4096 then Some DirFull else None))) fine
        ∙ ap (λ (o : Option Target). if is_some o then Some Exists else (if nat_eq (length (entries_at u dir)) 4096 then Some DirFull else None)) none
        ∙ ap (λ b. if b then Some DirFull else None) less

    put_it : (index : ℕ) → with_saved_item index u (saved t this) ≡ Ok next
    put_it index =
        ap (λ (r : Reading Spot). r >>= λ s. formed (codes "number") (only_if (is_open u n) n) >>= λ name. unless_full index (place_fault u s.dir s.text) (with_named u s name (content_at t n kind)))
        (spot_found index u path text dir fine (ap (λ r. down u r (way path)) front.root ∙ ready.leads) none)
        ∙ ap (λ b. formed (codes "number") (only_if b n) >>= λ name. unless_full index (place_fault u dir text) (with_named u (place text dir) name (content_at t n kind))) is_free
        ∙ ap (λ (o : Option FileFault). unless_full index o next) clear

  -- ---- one entry, with what it holds

  module _ (u : Tree) (path : Text) (dir : Name) (ready : IsReady t u path dir) (text : Text) (n : Name) (none : target_at u dir text ≡ None) (room : length (entries_at u dir) < 4096) where
    module _ (leads : LeadsTo t dir text (record { kind = File; name = n })) where
      abbrev file : Target
      file = record { kind = File; name = n }

      abbrev with_it : Tree
      with_it = next u path dir ready text File n leads none room

      put_here : IsPut u with_it dir n text File (bytes_at t n)
      put_here = put_file u dir n text ready.live (free u path dir ready text File n leads none room File) (free u path dir ready text File n leads none room Dir) (bytes_at t n) (whole.few n)

      as_file : get with_it.files n ≡ get t.files n
      as_file = put_here.made.0 ∙ sym (there (get t.files n) [] (lives u path dir ready text File n leads none room))

      no_dir : IsTrue (lives_as Dir with_it n) → get with_it.dirs n ≡ get t.dirs n
      no_dir h = let no : true ≡ false = sym h ∙ ap is_some put_here.made.1 in absurd cc

      file_made : Makes t u with_it (record { path = below path text; target = file } ∷ []) dir ((text, file) ∷ [])
      file_made =
          record {
            made = λ index. ap (λ (r : Reading Tree). r >>= λ v. Ok v) (put_it u path dir ready text File n leads none room index);
            front = front_next t u with_it dir n text File (bytes_at t n) ready.front put_here ready.live (free u path dir ready text File n leads none room) leads none;
            grows = grown t u with_it dir n text File (bytes_at t n) ready.front put_here ready.live (free u path dir ready text File n leads none room) leads none no_dir (λ h. as_file);
            whole = put_here.here;
          }

    module _ (leads : LeadsTo t dir text (record { kind = Dir; name = n })) where
      abbrev sub : Target
      sub = record { kind = Dir; name = n }

      abbrev with_dir : Tree
      with_dir = next u path dir ready text Dir n leads none room

      open_to : (k : EntryKind) → lives_as k u n ≡ false
      open_to k = free u path dir ready text Dir n leads none room k

      dir_put : IsPut u with_dir dir n text Dir []
      dir_put = put_dir u dir n text ready.live (open_to File) (open_to Dir) []

      dir_front : IsFront t with_dir
      dir_front = front_next t u with_dir dir n text Dir [] ready.front dir_put ready.live open_to leads none

      new_lives : IsTrue (lives_as Dir with_dir n)
      new_lives = ap is_some dir_put.made.0

      dir_empty : entries_at with_dir n ≡ []
      dir_empty = ap (λ (o : Option Entries). unwrap_or o []) dir_put.made.0

      kept : (d : Name) (q : List ℕ) (x : Target) → LeadsTo u d q x → LeadsTo with_dir d q x
      kept = keeps t u with_dir dir n text Dir [] ready.front dir_put ready.live open_to leads none

      here_found : LeadsTo with_dir dir text sub
      here_found = new_entry t u with_dir dir n text Dir [] ready.front dir_put ready.live open_to leads none

      dir_ready : IsReady t with_dir (below path text) n
      dir_ready =
          record {
            front = dir_front;
            live = new_lives;
            leads =
                ap (down with_dir t.root) (way_below path text (fine u path dir ready text Dir n leads none room))
                ∙ down_more with_dir t.root (way path) text
                ∙ ap (option_and_then (λ d. dir_at with_dir d text)) (down_kept u with_dir kept (way path) t.root dir ready.leads)
                ∙ ap (name_of_kind Dir) here_found;
          }

      -- the directory and what is made in it
      dir_made : (items : List Item) (v : Tree) → Makes t with_dir v items n (entries_at t n) → Makes t u v (record { path = below path text; target = sub } ∷ items) dir ((text, sub) ∷ [])
      dir_made items v m =
          record {
            made = λ index. ap (λ (r : Reading Tree). r >>= λ w. with_saved_items (suc index) w (map (saved t) items)) (put_it u path dir ready text Dir n leads none room index) ∙ m.made (suc index);
            front = m.front;
            grows = record {
              entries = λ d q x l. m.grows.entries d q x (kept d q x l);
              dirs = λ d l other. m.grows.dirs d (on Dir d l) (not_new d l) ∙ dirs_stay t u with_dir dir n text Dir [] ready.front dir_put ready.live open_to leads none d l other;
              files = λ f l. m.grows.files f (on File f l) ∙ dir_put.files f (not_new_file f l);
              new_dirs = λ d l before. by_test (lives_as Dir with_dir d) (λ e. made_whole d (is_new t u with_dir dir n text Dir [] ready.front dir_put ready.live open_to leads none Dir d e before)) (λ e. m.grows.new_dirs d l e);
              new_files = λ f l before. by_test (lives_as File with_dir f) (λ e. made_no_file f e (is_new t u with_dir dir n text Dir [] ready.front dir_put ready.live open_to leads none File f e before)) (λ e. m.grows.new_files f l e);
            };
            whole = m.grows.dirs dir (on Dir dir ready.live) (differ u dir n text ready.live (open_to File) (open_to Dir)) ∙ dir_put.here;
          }
        where
          on : (k : EntryKind) (d : Name) → IsTrue (lives_as k u d) → IsTrue (lives_as k with_dir d)
          on = lives_on t u with_dir dir n text Dir [] ready.front dir_put ready.live open_to leads none

          not_new : (d : Name) → IsTrue (lives_as Dir u d) → d ≡ n → ⊥
          not_new d l is = let no : true ≡ false = sym l ∙ ap (lives_as Dir u) is ∙ open_to Dir in cc

          not_new_file : (f : Name) → IsTrue (lives_as File u f) → f ≡ n → ⊥
          not_new_file f l is = let no : true ≡ false = sym l ∙ ap (lives_as File u) is ∙ open_to File in cc

          made_whole : (d : Name) → d ≡ n → get v.dirs d ≡ get t.dirs d
          made_whole d is =
              ap (get v.dirs) is ∙ m.whole ∙ ap (λ (es : Entries). Some (es ++ entries_at t n)) dir_empty
              ∙ sym (there (get t.dirs n) [] (lives u path dir ready text Dir n leads none room)) ∙ ap (get t.dirs) (sym is)

          made_no_file : (f : Name) → IsTrue (lives_as File with_dir f) → f ≡ n → get v.files f ≡ get t.files f
          made_no_file f l is = let no : true ≡ false = sym l ∙ ap (lives_as File with_dir) is ∙ ap is_some dir_put.made.1 in absurd cc

  -- ---- all entries

  -- so many levels hold all that is below a directory
  abbrev pub IsDeep : ℕ → Name → Type 0
  IsDeep zero dir = entries_at t dir ≡ []
  IsDeep (suc k) dir = (text : Text) (n : Name) → LeadsTo t dir text (record { kind = Dir; name = n }) → IsDeep k n

  -- its items make a directory that was put without entries
  abbrev pub MakesDirs : ℕ → Type 0
  MakesDirs k = (u : Tree) (path : Text) (dir : Name) → IsReady t u path dir → entries_at u dir ≡ [] → IsDeep k dir → (v : Tree) × Makes t u v (items_below k t path dir) dir (entries_at t dir)

  module _ (k : ℕ) (level : MakesDirs k) where
    entry_made :
        (u : Tree) (path : Text) (dir : Name) → IsReady t u path dir → (text : Text) (kind : EntryKind) (n : Name) → LeadsTo t dir text (record { kind = kind; name = n }) → target_at u dir text ≡ None → length (entries_at u dir) < 4096 → (kind ≡ Dir → IsDeep k n) → (v : Tree) × Makes t u v (at_entry (items_below k t) path (text, record { kind = kind; name = n })) dir ((text, record { kind = kind; name = n }) ∷ [])
    entry_made u path dir ready text File n leads none room deep = (with_it u path dir ready text n none room leads, file_made u path dir ready text n none room leads)
    entry_made u path dir ready text Dir n leads none room deep =
        let inner = level (with_dir u path dir ready text n none room leads) (below path text) n (dir_ready u path dir ready text n none room leads) (dir_empty u path dir ready text n none room leads) (deep refl) in
        (inner.0, dir_made u path dir ready text n none room leads (items_below k t (below path text) n) inner.0 inner.1)

    entries_made :
        (dir : Name) → ((text : Text) (n : Name) → LeadsTo t dir text (record { kind = Dir; name = n }) → IsDeep k n) → (es done : Entries) → entries_at t dir ≡ done ++ es → (u : Tree) (path : Text) → IsReady t u path dir → entries_at u dir ≡ done → (v : Tree) × Makes t u v (flat_map (at_entry (items_below k t) path) es) dir es
    entries_made dir deep [] done all u path ready so_far = (
      u,
      record {
        made = λ index. refl;
        front = ready.front;
        grows = record {
          entries = λ d q x l. l;
          dirs = λ d l other. refl;
          files = λ f l. refl;
          new_dirs = λ d l before. let no : true ≡ false = sym l ∙ before in absurd cc;
          new_files = λ f l before. let no : true ≡ false = sym l ∙ before in absurd cc;
        };
        whole = there (get u.dirs dir) [] ready.live ∙ ap Some (sym (append-nil (entries_at u dir)));
      },
    )
    entries_made dir deep (e ∷ es) done all u path ready so_far =
        let listed = whole.sound.listed dir in
        let mid = found_middle done e es (subst (λ xs. IsDistinct text_eq (keys_of xs)) all listed.distinct) in
        let leads : LeadsTo t dir e.0 e.1 = ap (lookup (text_eq e.0)) all ∙ mid.1 in
        let none : target_at u dir e.0 ≡ None = ap (lookup (text_eq e.0)) so_far ∙ mid.0 in
        let room : length (entries_at u dir) < 4096 = let n = listed.few in let m = ap length all in let l = length-append done (e ∷ es) in let s = ap length so_far in omega arith in
        let first = entry_made u path dir ready e.0 e.1.kind e.1.name leads none room (λ is. deep e.0 e.1.name (leads ∙ ap (λ (j : EntryKind). Some (record { kind = j; name = e.1.name })) is)) in
        let v = first.0 in
        let m = first.1 in
        let after : IsReady t v path dir = record {
          front = m.front;
          live = ap is_some m.whole;
          leads = down_kept u v m.grows.entries (way path) t.root dir ready.leads;
        } in
        let now_here : entries_at v dir ≡ done ++ e ∷ [] = ap (λ (o : Option Entries). unwrap_or o []) m.whole ∙ ap (λ (xs : Entries). xs ++ e ∷ []) so_far in
        let rest = entries_made dir deep es (done ++ e ∷ []) (all ∙ sym (append_assoc done (e ∷ []) es)) v path after now_here in
        (rest.0, makes_then t u v rest.0 (at_entry (items_below k t) path e) (flat_map (at_entry (items_below k t) path) es) dir (e ∷ []) es ready.live m rest.1)

  pub dirs_made : (k : ℕ) → MakesDirs k
  unfolding items_below
  dirs_made zero u path dir ready empty deep = (
    u,
    record {
      made = λ index. refl;
      front = ready.front;
      grows = record {
        entries = λ d q x l. l;
        dirs = λ d l other. refl;
        files = λ f l. refl;
        new_dirs = λ d l before. let no : true ≡ false = sym l ∙ before in absurd cc;
        new_files = λ f l before. let no : true ≡ false = sym l ∙ before in absurd cc;
      };
      whole = there (get u.dirs dir) [] ready.live ∙ ap Some (sym (append-nil (entries_at u dir))) ∙ ap (λ (es : Entries). Some (entries_at u dir ++ es)) (sym deep);
    },
  )
  dirs_made (suc k) u path dir ready empty deep = entries_made k (dirs_made k) dir deep (entries_at t dir) [] refl u path ready empty

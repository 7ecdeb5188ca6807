-- A tree with one entry more, which leads to what was not there, or with fewer entries, is a forest where it was one.
use Rattle.std.proofs.Common.{◌≡◌, ◌⊎◌, inl, inr, cond, ℕ, Bool, true, false, List, [], ◌∷◌, Option, Some, None, is_some, refl, sym, ap, ◌∙◌, subst}
use Rattle.std.specs.Prelude.{IsTrue, take}
use Rattle.std.specs.Option.{option_or, unwrap_or}
use Rattle.std.specs.Map.{lookup}
use Rattle.std.specs.FinMap.{FinMap, get, insert, empty, contains_key, get-empty, get-insert}
use Rattle.std.specs.Ordering.{eq_by_cmp}
use Rattle.std.specs.Cmp.{Equal-is, eq_by_cmp_equiv}
use Rattle.std.specs.Cmp.Lexicographic.{nat_list_eq_equiv, same_text}
use Rattle.lam_value.specs.declared.names.Name.{Name}
use Rattle.lam_value.specs.Names.{name_cmp}
use Rattle.lam_value.specs.Homes.{Home, Counts}
use Rattle.lam_value.proofs.Keys.{name_total, name_exact}
use Rattle.lam_value.proofs.Rows.{lookup-append}
use Rattle.lam_value.proofs.CountLemmas.{next_is_new}
use Rattle.labelled_files.specs.declared.directory.Target.{Target}
use Rattle.labelled_files.specs.declared.directory.EntryKind.{EntryKind}
use Rattle.labelled_files.specs.declared.directory.EntryKind.TheVariants.{File, Dir}
use Rattle.labelled_files.specs.Entries.{Entries, text_eq, without}
use Rattle.labelled_files.specs.Trees.{Tree, root_alone, lives_as, entries_at, changed, changed_at, joined, next_name, with_file, with_dir, placed, without_entry, appended, IsSound}
use Rattle.labelled_files.proofs.SoundLemmas.{lives_changed}
use Rattle.world_forest.specs.Forest.{LeadsTo, IsForest}
use Rattle.world_forest.specs.Laws.{CallsKeepForests}

-- ---- what lives

alive : (t : Tree) (k : EntryKind) (n : Name) → lives_as File t n ≡ false → lives_as Dir t n ≡ false → IsTrue (lives_as k t n) → ⊥
alive t File n no_file no_dir h = let e : true ≡ false = sym h ∙ no_file in cc
alive t Dir n no_file no_dir h = let e : true ≡ false = sym h ∙ no_dir in cc

-- ---- one entry more

record OneMore (t u : Tree) (dir : Name) (text : List ℕ) (x : Target) : Type 0 where
  entries : (d : Name) (q : List ℕ) (y : Target) → LeadsTo u d q y → LeadsTo t d q y ⊎ ((d ≡ dir) × ((q ≡ text) × (y ≡ x)))
  lives : (k : EntryKind) (n : Name) → IsTrue (lives_as k t n) → IsTrue (lives_as k u n)
  here : IsTrue (lives_as x.kind u x.name)
  root : u.root ≡ t.root

-- a name that does not live stands in no entry
unnamed : (t : Tree) (n : Name) → IsForest t → lives_as File t n ≡ false → lives_as Dir t n ≡ false → (d : Name) (q : List ℕ) (y : Target) → LeadsTo t d q y → y.name ≡ n → ⊥
unnamed t n f no_file no_dir d q y h e = alive t y.kind n no_file no_dir (subst (λ m. IsTrue (lives_as y.kind t m)) e (f.lives d q y h))

more_forest : (t u : Tree) (dir : Name) (text : List ℕ) (x : Target) → OneMore t u dir text x → IsTrue (lives_as Dir t t.root) → lives_as File t x.name ≡ false → lives_as Dir t x.name ≡ false → IsForest t → IsForest u
more_forest t u dir text x one rooted no_file no_dir f =
    record {
      lives = λ d q y h. lives y (one.entries d q y h);
      once = λ d d' q q' y y' h h' e. once d d' q q' y y' (one.entries d q y h) (one.entries d' q' y' h') e;
      root = λ d q y h e. root d q y (one.entries d q y h) (e ∙ one.root);
    }
  where
    lives : {d : Name} {q : List ℕ} (y : Target) → LeadsTo t d q y ⊎ ((d ≡ dir) × ((q ≡ text) × (y ≡ x))) → IsTrue (lives_as y.kind u y.name)
    lives {d} {q} y (inl h) = one.lives y.kind y.name (f.lives d q y h)
    lives y (inr p) = subst (λ (z : Target). IsTrue (lives_as z.kind u z.name)) (sym p.1.1) one.here

    once : (d d' : Name) (q q' : List ℕ) (y y' : Target) → LeadsTo t d q y ⊎ ((d ≡ dir) × ((q ≡ text) × (y ≡ x))) → LeadsTo t d' q' y' ⊎ ((d' ≡ dir) × ((q' ≡ text) × (y' ≡ x))) → y.name ≡ y'.name → (d ≡ d') × (q ≡ q')
    once d d' q q' y y' (inl h) (inl h') e = f.once d d' q q' y y' h h' e
    once d d' q q' y y' (inl h) (inr p) e = absurd (unnamed t x.name f no_file no_dir d q y h (e ∙ ap (λ (z : Target). z.name) p.1.1))
    once d d' q q' y y' (inr p) (inl h') e = absurd (unnamed t x.name f no_file no_dir d' q' y' h' (sym e ∙ ap (λ (z : Target). z.name) p.1.1))
    once d d' q q' y y' (inr p) (inr p') e = (p.0 ∙ sym p'.0, p.1.0 ∙ sym p'.1.0)

    root : (d : Name) (q : List ℕ) (y : Target) → LeadsTo t d q y ⊎ ((d ≡ dir) × ((q ≡ text) × (y ≡ x))) → y.name ≡ t.root → ⊥
    root d q y (inl h) e = f.root d q y h e
    root d q y (inr p) e = alive t Dir x.name no_file no_dir (subst (λ m. IsTrue (lives_as Dir t m)) (sym e ∙ ap (λ (z : Target). z.name) p.1.1) rooted)

-- ---- no entry more

record NoMore (t u : Tree) : Type 0 where
  entries : (d : Name) (q : List ℕ) (y : Target) → LeadsTo u d q y → LeadsTo t d q y
  lives : (k : EntryKind) (n : Name) → IsTrue (lives_as k t n) → IsTrue (lives_as k u n)
  root : u.root ≡ t.root

fewer_forest : (t u : Tree) → NoMore t u → IsForest t → IsForest u
fewer_forest t u less f =
    record {
      lives = λ d q y h. less.lives y.kind y.name (f.lives d q y (less.entries d q y h));
      once = λ d d' q q' y y' h h' e. f.once d d' q q' y y' (less.entries d q y h) (less.entries d' q' y' h') e;
      root = λ d q y h e. f.root d q y (less.entries d q y h) (e ∙ less.root);
    }

-- ---- the entries of directories, one of which is changed

same_name : (n k : Name) → eq_by_cmp name_cmp n k ≡ true → n ≡ k
same_name n k e = name_exact n k ((Equal-is (name_cmp n k)).0 e)

-- what is found in a directory after the change was found in it before, or in the changed one after the change
found_on : (m : FinMap name_cmp Entries) (dir : Name) (f : Entries → Entries) (o : Option Entries) → get m dir ≡ o → (d : Name) (q : List ℕ) (y : Target) → lookup (text_eq q) (unwrap_or (get (changed o m dir f) d) []) ≡ Some y → (lookup (text_eq q) (unwrap_or (get m d) []) ≡ Some y) ⊎ ((d ≡ dir) × (lookup (text_eq q) (f (unwrap_or (get m d) [])) ≡ Some y))
found_on m dir f None e d q y h = inl h
found_on m dir f (Some es) e d q y h = by (eq_by_cmp name_cmp d dir) refl (sym (ap (λ (o : Option Entries). lookup (text_eq q) (unwrap_or o [])) (get-insert name_total m dir (f es) d)) ∙ h)
  where
    by : (b : Bool) → eq_by_cmp name_cmp d dir ≡ b → lookup (text_eq q) (unwrap_or (cond b (Some (f es)) (get m d)) []) ≡ Some y → (lookup (text_eq q) (unwrap_or (get m d) []) ≡ Some y) ⊎ ((d ≡ dir) × (lookup (text_eq q) (f (unwrap_or (get m d) [])) ≡ Some y))
    by true t k =
        let same = same_name d dir t in
        let here : get m d ≡ Some es = ap (get m) same ∙ e in
        inr (same, ap (λ (o : Option Entries). lookup (text_eq q) (f (unwrap_or o []))) here ∙ k)
    by false t k = inl k

found : (m : FinMap name_cmp Entries) (dir : Name) (f : Entries → Entries) (d : Name) (q : List ℕ) (y : Target) → lookup (text_eq q) (unwrap_or (get (changed_at m dir f) d) []) ≡ Some y → (lookup (text_eq q) (unwrap_or (get m d) []) ≡ Some y) ⊎ ((d ≡ dir) × (lookup (text_eq q) (f (unwrap_or (get m d) [])) ≡ Some y))
found m dir f d q y h = found_on m dir f (get m dir) refl d q y h

-- what is found among entries and one more
found_last : (es : Entries) (text : List ℕ) (kind : EntryKind) (n : Name) (q : List ℕ) (y : Target) → lookup (text_eq q) (joined text kind n es) ≡ Some y → (lookup (text_eq q) es ≡ Some y) ⊎ ((q ≡ text) × ◌≡◌ {A = Target} y (record { kind = kind; name = n }))
found_last es text kind n q y h = by (lookup (text_eq q) es) refl (text_eq q text) refl (sym (lookup-append (text_eq q) es ((text, record { kind = kind; name = n }) ∷ [])) ∙ h)
  where
    by : (o : Option Target) → lookup (text_eq q) es ≡ o → (b : Bool) → text_eq q text ≡ b → option_or o (cond b (Some (record { kind = kind; name = n })) None) ≡ Some y → (lookup (text_eq q) es ≡ Some y) ⊎ ((q ≡ text) × ◌≡◌ {A = Target} y (record { kind = kind; name = n }))
    by (Some z) e b f k = inl (e ∙ k)
    by None e true f k = let same : ◌≡◌ {A = Target} y (record { kind = kind; name = n }) = cc in inr (same_text q text (sym f), same)
    by None e false f k = absurd cc

-- what is found among entries without one
gone : (text q : List ℕ) (es : Entries) → text_eq text q ≡ true → lookup (text_eq q) (without text es) ≡ None
gone text q [] same = refl
gone text q (x ∷ xs) same = by (text_eq text x.0) refl (gone text q xs same)
  where
    by : (b : Bool) → text_eq text x.0 ≡ b → lookup (text_eq q) (without text xs) ≡ None → lookup (text_eq q) (cond b (without text xs) (x ∷ without text xs)) ≡ None
    by true e r = r
    by false e r = ap (λ b. cond b (Some x.1) (lookup (text_eq q) (without text xs))) (sym (nat_list_eq_equiv.congr text q x.0 same) ∙ e) ∙ r

others : (text q : List ℕ) (es : Entries) → text_eq text q ≡ false → lookup (text_eq q) (without text es) ≡ lookup (text_eq q) es
others text q [] apart = refl
others text q (x ∷ xs) apart = by (text_eq text x.0) refl (others text q xs apart)
  where
    by : (b : Bool) → text_eq text x.0 ≡ b → lookup (text_eq q) (without text xs) ≡ lookup (text_eq q) xs
        → lookup (text_eq q) (cond b (without text xs) (x ∷ without text xs)) ≡ cond (text_eq q x.0) (Some x.1) (lookup (text_eq q) xs)
    by true e r = r ∙ sym (ap (λ b. cond b (Some x.1) (lookup (text_eq q) xs)) (nat_list_eq_equiv.symm q x.0 ∙ sym (nat_list_eq_equiv.congr text x.0 q e) ∙ apart))
    by false e r = ap (cond (text_eq q x.0) (Some x.1)) r

found_less : (text q : List ℕ) (es : Entries) (y : Target) → lookup (text_eq q) (without text es) ≡ Some y → lookup (text_eq q) es ≡ Some y
found_less text q es y h = by (text_eq text q) refl
  where
    by : (b : Bool) → text_eq text q ≡ b → lookup (text_eq q) es ≡ Some y
    by true e = let no : None ≡ Some y = sym (gone text q es e) ∙ h in cc
    by false e = sym (others text q es e) ∙ h

-- ---- maps

lives_put : {X : Type 0} (m : FinMap name_cmp X) (n : Name) (x : X) (q : Name) → IsTrue (contains_key m q) → IsTrue (contains_key (insert m n x) q)
lives_put m n x q lives = ap is_some (get-insert name_total m n x q) ∙ by (eq_by_cmp name_cmp q n)
  where
    by : (b : Bool) → is_some (cond b (Some x) (get m q)) ≡ true
    by true = refl
    by false = lives

lives_there : {X : Type 0} (m : FinMap name_cmp X) (n : Name) (x : X) → IsTrue (contains_key (insert m n x) n)
lives_there m n x = ap is_some (get-insert name_total m n x n) ∙ ap (λ b. is_some (cond b (Some x) (get m n))) ((eq_by_cmp_equiv name_total).refl n)

-- what is found after a new directory was put there without entries was found before
found_new : (m : FinMap name_cmp Entries) (n d : Name) (q : List ℕ) (y : Target) → lookup (text_eq q) (unwrap_or (get (insert m n []) d) []) ≡ Some y → lookup (text_eq q) (unwrap_or (get m d) []) ≡ Some y
found_new m n d q y h = by (eq_by_cmp name_cmp d n) (sym (ap (λ (o : Option Entries). lookup (text_eq q) (unwrap_or o [])) (get-insert name_total m n [] d)) ∙ h)
  where
    by : (b : Bool) → lookup (text_eq q) (unwrap_or (cond b (Some []) (get m d)) []) ≡ Some y → lookup (text_eq q) (unwrap_or (get m d) []) ≡ Some y
    by true k = cc
    by false k = k

-- ---- each change

module _ (t : Tree) (counts : Counts) (dir n : Name) (text : List ℕ) where
  abbrev put_file : Tree
  put_file = record { dirs = changed_at t.dirs dir (joined text File n); files = insert t.files n []; counts = counts; root = t.root }

  abbrev put_dir : Tree
  put_dir = record { dirs = insert (changed_at t.dirs dir (joined text Dir n)) n []; files = t.files; counts = counts; root = t.root }

  in_place : (kind : EntryKind) (d : Name) (q : List ℕ) (y : Target) → (lookup (text_eq q) (entries_at t d) ≡ Some y) ⊎ ((d ≡ dir) × (lookup (text_eq q) (joined text kind n (entries_at t d)) ≡ Some y)) → LeadsTo t d q y ⊎ ((d ≡ dir) × ((q ≡ text) × ◌≡◌ {A = Target} y (record { kind = kind; name = n })))
  in_place kind d q y (inl h) = inl h
  in_place kind d q y (inr p) = at (found_last (entries_at t d) text kind n q y p.1)
    where
      at : (lookup (text_eq q) (entries_at t d) ≡ Some y) ⊎ ((q ≡ text) × ◌≡◌ {A = Target} y (record { kind = kind; name = n })) → LeadsTo t d q y ⊎ ((d ≡ dir) × ((q ≡ text) × ◌≡◌ {A = Target} y (record { kind = kind; name = n })))
      at (inl h) = inl h
      at (inr k) = inr (p.0, k)

  more_file : (k : EntryKind) (q : Name) → IsTrue (lives_as k t q) → IsTrue (lives_as k put_file q)
  more_file File q h = lives_put t.files n [] q h
  more_file Dir q h = lives_changed t.dirs dir (joined text File n) q ∙ h

  more_dir : (k : EntryKind) (q : Name) → IsTrue (lives_as k t q) → IsTrue (lives_as k put_dir q)
  more_dir File q h = h
  more_dir Dir q h = lives_put (changed_at t.dirs dir (joined text Dir n)) n [] q (lives_changed t.dirs dir (joined text Dir n) q ∙ h)

  one_file : OneMore t put_file dir text (record { kind = File; name = n })
  one_file =
      record {
        entries = λ d q y h. in_place File d q y (found t.dirs dir (joined text File n) d q y h);
        lives = more_file;
        here = lives_there t.files n [];
        root = refl;
      }

  one_dir : OneMore t put_dir dir text (record { kind = Dir; name = n })
  one_dir =
      record {
        entries = λ d q y h. in_place Dir d q y (found t.dirs dir (joined text Dir n) d q y (found_new (changed_at t.dirs dir (joined text Dir n)) n d q y h));
        lives = more_dir;
        here = lives_there (changed_at t.dirs dir (joined text Dir n)) n [];
        root = refl;
      }

  module _ (sound : IsSound t) (f : IsForest t) (no_file : lives_as File t n ≡ false) (no_dir : lives_as Dir t n ≡ false) where
    forest_put_file : IsForest put_file
    forest_put_file = more_forest t put_file dir text (record { kind = File; name = n }) one_file sound.rooted no_file no_dir f

    forest_put_dir : IsForest put_dir
    forest_put_dir = more_forest t put_dir dir text (record { kind = Dir; name = n }) one_dir sound.rooted no_file no_dir f

pub forest_file : (t : Tree) (dir : Name) (text : List ℕ) (home : Home) → IsSound t → IsForest t → IsForest (with_file t dir text home)
forest_file t dir text home s f = forest_put_file t _ dir (next_name t home) text s f (next_is_new t.files t.counts home s.counted.0) (next_is_new t.dirs t.counts home s.counted.1)

pub forest_dir : (t : Tree) (dir : Name) (text : List ℕ) (home : Home) → IsSound t → IsForest t → IsForest (with_dir t dir text home)
forest_dir t dir text home s f = forest_put_dir t _ dir (next_name t home) text s f (next_is_new t.files t.counts home s.counted.0) (next_is_new t.dirs t.counts home s.counted.1)

pub forest_placed : (t : Tree) (dir : Name) (text : List ℕ) (kind : EntryKind) (n : Name) → IsSound t → IsForest t → lives_as File t n ≡ false → lives_as Dir t n ≡ false → IsForest (placed t dir text kind n)
forest_placed t dir text File n s f no_file no_dir = forest_put_file t t.counts dir n text s f no_file no_dir
forest_placed t dir text Dir n s f no_file no_dir = forest_put_dir t t.counts dir n text s f no_file no_dir

pub forest_without : (t : Tree) (dir : Name) (text : List ℕ) → IsForest t → IsForest (without_entry t dir text)
forest_without t dir text = fewer_forest t (without_entry t dir text) (record { entries = λ d q y h. at d q y (found t.dirs dir (without text) d q y h); lives = lives; root = refl })
  where
    at : (d : Name) (q : List ℕ) (y : Target) → (lookup (text_eq q) (entries_at t d) ≡ Some y) ⊎ ((d ≡ dir) × (lookup (text_eq q) (without text (entries_at t d)) ≡ Some y)) → LeadsTo t d q y
    at d q y (inl h) = h
    at d q y (inr p) = found_less text q (entries_at t d) y p.1

    lives : (k : EntryKind) (n : Name) → IsTrue (lives_as k t n) → IsTrue (lives_as k (without_entry t dir text) n)
    lives File n h = h
    lives Dir n h = lives_changed t.dirs dir (without text) n ∙ h

pub forest_bytes : (t : Tree) (n : Name) (change : List ℕ → List ℕ) → IsForest t → IsForest (record t { files = changed_at t.files n change })
forest_bytes t n change = fewer_forest t (record t { files = changed_at t.files n change }) (record { entries = λ d q y h. h; lives = lives; root = refl })
  where
    lives : (k : EntryKind) (q : Name) → IsTrue (lives_as k t q) → IsTrue (lives_as k (record t { files = changed_at t.files n change }) q)
    lives File q h = lives_changed t.files n change q ∙ h
    lives Dir q h = h

pub forest_counts : (t : Tree) (counts : Counts) → IsForest t → IsForest (record t { counts = counts })
forest_counts t counts = fewer_forest t (record t { counts = counts }) (record { entries = λ d q y h. h; lives = lives; root = refl })
  where
    lives : (k : EntryKind) (q : Name) → IsTrue (lives_as k t q) → IsTrue (lives_as k (record t { counts = counts }) q)
    lives File q h = h
    lives Dir q h = h

-- ---- the root alone

nothing_there : (d : Name) (q : List ℕ) (y : Target) → LeadsTo root_alone d q y → ⊥
nothing_there d q y h =
    let none : lookup (text_eq q) (unwrap_or (get (empty {X = Entries} {R = name_cmp}) d) []) ≡ Some y = found_new empty root_alone.root d q y h in
    let no : lookup (text_eq q) (unwrap_or (get (empty {X = Entries} {R = name_cmp}) d) []) ≡ None = ap (λ (o : Option Entries). lookup (text_eq q) (unwrap_or o [])) (get-empty name_cmp d) in
    cc

pub forest_root : IsForest root_alone
forest_root =
    record {
      lives = λ d q y h. absurd (nothing_there d q y h);
      once = λ d d' q q' y y' h h' e. absurd (nothing_there d q y h);
      root = λ d q y h e. nothing_there d q y h;
    }

pub calls_keep : CallsKeepForests
calls_keep =
    record {
      root = forest_root;
      file = forest_file;
      dir = forest_dir;
      placed = forest_placed;
      removed = forest_without;
      more = λ t n bytes. forest_bytes t n (appended bytes);
      less = λ t n len. forest_bytes t n (take len);
      counted = λ t home n. forest_counts t _;
    }

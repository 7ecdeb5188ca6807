-- What holds of all files and directories holds after each call.
use Rattle.std.proofs.Common.{◌≡◌, ◌≤◌, ◌<◌, cond, ℕ, suc, List, [], ◌∷◌, ◌++◌, length, Option, Some, None, is_some, refl, sym, ap, ◌∙◌, arith, subst, Bool, true, false}
use Rattle.std.specs.Prelude.{IsTrue}
use Rattle.std.specs.Option.{option_or, unwrap_or}
use Rattle.std.specs.Map.{lookup, keys_of}
use Rattle.std.specs.List.{IsDistinct, AllByRecursion}
use Rattle.std.specs.FinMap.{FinMap, get, insert, empty, contains_key, get-empty, get-insert}
use Rattle.std.specs.Ordering.{eq_by_cmp}
use Rattle.std.specs.Cmp.{Equal-is, eq_by_cmp_equiv}
use Rattle.std.specs.Cmp.Lexicographic.{nat_list_eq_equiv, same_text}
use Rattle.std.proofs.lemmas.Map.Keys.{IsDistinct-push}
use Rattle.std.proofs.lemmas.Map.Made.{is_some-lookup}
use Rattle.lam_value.specs.declared.names.Name.{Name}
use Rattle.lam_value.specs.Names.{name_cmp}
use Rattle.lam_value.specs.Homes.{Home, Counts, home_of, count_in, counted, AreCounted, AreWithin}
use Rattle.lam_value.proofs.Keys.{name_total, name_exact, home_total}
use Rattle.lam_value.proofs.Rows.{lookup-append}
use Rattle.lam_value.proofs.CountLemmas.{counted_none, counted_put, counted_more, counted_change, next_is_new, within_more, within_insert, within_none, within_raised, counted_raised, count_next, count_insert}
use Rattle.labelled_files.specs.declared.directory.Target.{Target}
use Rattle.labelled_files.specs.declared.directory.EntryKind.{EntryKind}
use Rattle.labelled_files.specs.declared.directory.EntryKind.TheVariants.{File, Dir}
use Rattle.labelled_files.specs.Entries.{Entries, text_eq, is_entry_name, without}
use Rattle.labelled_files.specs.Trees.{Tree, public_home, root_alone, lives_as, entries_at, target_at, changed, changed_at, joined, next_name, with_file, with_dir, placed, with_count, without_entry, IsSound, AreListed}

-- ---- a change of what lives under a name
module _ {X : Type 0} (m : FinMap name_cmp X) (n : Name) (f : X → X) where
  lives_on : (o : Option X) → get m n ≡ o → (q : Name) → is_some (get (changed o m n f) q) ≡ is_some (get m q)
  lives_on None e q = refl
  lives_on (Some x) e q = ap is_some (get-insert name_total m n (f x) q) ∙ by (eq_by_cmp name_cmp q n) refl
    where
      by : (b : Bool) → eq_by_cmp name_cmp q n ≡ b → is_some (cond b (Some (f x)) (get m q)) ≡ is_some (get m q)
      by true t = sym (ap is_some (ap (get m) (name_exact q n ((Equal-is (name_cmp q n)).0 t)) ∙ e))
      by false t = refl

  -- the same live after it
  pub lives_changed : (q : Name) → contains_key (changed_at m n f) q ≡ contains_key m q
  lives_changed q = lives_on (get m n) refl q

  counts_on : (counts : Counts) → AreCounted m counts → (o : Option X) → get m n ≡ o → AreCounted (changed o m n f) counts
  counts_on counts below None e = below
  counts_on counts below (Some x) e = counted_change m counts n (f x) below (ap is_some e)

  pub counted_changed : (counts : Counts) → AreCounted m counts → AreCounted (changed_at m n f) counts
  counted_changed counts below = counts_on counts below (get m n) refl

  stays_on : (P : X → Type 0) (d : X) → ((q : Name) → P (unwrap_or (get m q) d)) → (o : Option X) → get m n ≡ o → (P (unwrap_or o d) → P (f (unwrap_or o d))) → (q : Name) → P (unwrap_or (get (changed o m n f) q) d)
  stays_on P d all None e kept q = all q
  stays_on P d all (Some x) e kept q = subst (λ o. P (unwrap_or o d)) (sym (get-insert name_total m n (f x) q)) (by (eq_by_cmp name_cmp q n))
    where
      by : (b : Bool) → P (unwrap_or (cond b (Some (f x)) (get m q)) d)
      by true = kept (subst (λ o. P (unwrap_or o d)) e (all n))
      by false = all q

  -- what holds of all and is kept by the change holds of all after it
  pub stays : (P : X → Type 0) (d : X) → ((q : Name) → P (unwrap_or (get m q) d)) → (P (unwrap_or (get m n) d) → P (f (unwrap_or (get m n) d))) → (q : Name) → P (unwrap_or (get (changed_at m n f) q) d)
  stays P d all kept q = stays_on P d all (get m n) refl kept q

lives_put : {X : Type 0} (m : FinMap name_cmp X) (n : Name) (x : X) (q : Name) → IsTrue (contains_key m q) → IsTrue (contains_key (insert m n x) q)
lives_put m n x q lives = ap is_some (get-insert name_total m n x q) ∙ by (eq_by_cmp name_cmp q n)
  where
    by : (b : Bool) → is_some (cond b (Some x) (get m q)) ≡ true
    by true = refl
    by false = lives

lives_there : {X : Type 0} (m : FinMap name_cmp X) (n : Name) (x : X) → IsTrue (contains_key (insert m n x) n)
lives_there m n x = ap is_some (get-insert name_total m n x n) ∙ ap (λ b. is_some (cond b (Some x) (get m n))) ((eq_by_cmp_equiv name_total).refl n)

-- who lives after one more was put: that one, and those before
lived : {X : Type 0} (m : FinMap name_cmp X) (n : Name) (x : X) (q : Name) → (b : Bool) → eq_by_cmp name_cmp q n ≡ b → contains_key (insert m n x) q ≡ cond b true (contains_key m q)
lived m n x q true e = ap is_some (get-insert name_total m n x q) ∙ ap (λ b. is_some (cond b (Some x) (get m q))) e
lived m n x q false e = ap is_some (get-insert name_total m n x q) ∙ ap (λ b. is_some (cond b (Some x) (get m q))) e

-- ---- entries
as_good : (q text : List ℕ) → text_eq q text ≡ true → is_entry_name text ≡ true → is_entry_name q ≡ true
as_good q text e good = ap is_entry_name (same_text q text (sym e)) ∙ good

module _ (t : Tree) (es : Entries) where
  -- entries that lead to what lives, in a tree where at least the same live
  pub good_in : (u : Tree) → ((kind : EntryKind) (n : Name) → IsTrue (lives_as kind t n) → IsTrue (lives_as kind u n)) → AreListed t es → AreListed u es
  good_in u more listed = record {
    good = λ text target at. let here = listed.good text target at in (here.0, more target.kind target.name here.1);
    distinct = listed.distinct;
    few = listed.few;
  }

  -- one more entry, with a new name
  pub listed_joined : (text : List ℕ) (kind : EntryKind) (n : Name) → AreListed t es → IsTrue (is_entry_name text) → lookup (text_eq text) es ≡ None → length es < 4096 → IsTrue (lives_as kind t n) → AreListed t (joined text kind n es)
  listed_joined text kind n listed fine new room lives = record {
    good = λ q target at. by q target (lookup (text_eq q) es) refl (text_eq q text) refl (sym (lookup-append (text_eq q) es ((text, record { kind = kind; name = n }) ∷ [])) ∙ at);
    distinct = subst (IsDistinct text_eq) (sym (keys_joined es)) (IsDistinct-push nat_list_eq_equiv (keys_of es) text listed.distinct (sym (is_some-lookup (text_eq text) es) ∙ ap is_some new));
    few = subst (λ k. k ≤ 4096) (sym (longer es)) room;
  }
    where
      by : (q : List ℕ) (target : Target) (o : Option Target) → lookup (text_eq q) es ≡ o → (b : Bool) → text_eq q text ≡ b → option_or o (cond b (Some (record { kind = kind; name = n })) None) ≡ Some target → IsTrue (is_entry_name q) × IsTrue (lives_as target.kind t target.name)
      by q target (Some old) e b f at = listed.good q target (e ∙ at)
      by q target None e true f at =
          let same : ◌≡◌ {A = Target} (record { kind = kind; name = n }) target = cc in
          (as_good q text f fine, subst (λ (x : Target). IsTrue (lives_as x.kind t x.name)) same lives)
      by q target None e false f at = cc

      keys_joined : (xs : Entries) → keys_of (xs ++ (text, record { kind = kind; name = n }) ∷ []) ≡ keys_of xs ++ text ∷ []
      keys_joined [] = refl
      keys_joined (x ∷ xs) = ap (λ ks. x.0 ∷ ks) (keys_joined xs)

      longer : (xs : Entries) → length (xs ++ (text, record { kind = kind; name = n }) ∷ []) ≡ suc (length xs)
      longer [] = refl
      longer (x ∷ xs) = ap suc (longer xs)

-- ---- an entry less
gone : (text q : List ℕ) (es : Entries) → text_eq text q ≡ true → lookup (text_eq q) (without text es) ≡ None
gone text q [] same = refl
gone text q (x ∷ xs) same = by (text_eq text x.0) refl (gone text q xs same)
  where
    by : (b : Bool) → text_eq text x.0 ≡ b → lookup (text_eq q) (without text xs) ≡ None → lookup (text_eq q) (cond b (without text xs) (x ∷ without text xs)) ≡ None
    by true e r = r
    by false e r = ap (λ b. cond b (Some x.1) (lookup (text_eq q) (without text xs))) (sym (nat_list_eq_equiv.congr text q x.0 same) ∙ e) ∙ r

others : (text q : List ℕ) (es : Entries) → text_eq text q ≡ false → lookup (text_eq q) (without text es) ≡ lookup (text_eq q) es
others text q [] apart = refl
others text q (x ∷ xs) apart = by (text_eq text x.0) refl (others text q xs apart)
  where
    by : (b : Bool) → text_eq text x.0 ≡ b → lookup (text_eq q) (without text xs) ≡ lookup (text_eq q) xs
        → lookup (text_eq q) (cond b (without text xs) (x ∷ without text xs)) ≡ cond (text_eq q x.0) (Some x.1) (lookup (text_eq q) xs)
    by true e r = r ∙ sym (ap (λ b. cond b (Some x.1) (lookup (text_eq q) xs)) (nat_list_eq_equiv.symm q x.0 ∙ sym (nat_list_eq_equiv.congr text x.0 q e) ∙ apart))
    by false e r = ap (cond (text_eq q x.0) (Some x.1)) r

all_without : (P : List ℕ → Type 0) (text : List ℕ) (es : Entries) → AllByRecursion P (keys_of es) → AllByRecursion P (keys_of (without text es))
all_without P text [] all = tt
all_without P text (x ∷ xs) all = by (text_eq text x.0) (all_without P text xs all.1)
  where
    by : (b : Bool) → AllByRecursion P (keys_of (without text xs)) → AllByRecursion P (keys_of (cond b (without text xs) (x ∷ without text xs)))
    by true r = r
    by false r = (all.0, r)

distinct_without : (text : List ℕ) (es : Entries) → IsDistinct text_eq (keys_of es) → IsDistinct text_eq (keys_of (without text es))
unfolding IsDistinct
distinct_without text [] distinct = distinct
distinct_without text (x ∷ xs) distinct = by (text_eq text x.0) (all_without (λ y. text_eq x.0 y ≡ false) text xs distinct.0) (distinct_without text xs distinct.1)
  where
    by : (b : Bool) → AllByRecursion (λ y. text_eq x.0 y ≡ false) (keys_of (without text xs)) → IsDistinct text_eq (keys_of (without text xs)) → IsDistinct text_eq (keys_of (cond b (without text xs) (x ∷ without text xs)))
    by true a r = r
    by false a r = (a, r)

fewer_without : (text : List ℕ) (es : Entries) → length (without text es) ≤ length es
fewer_without text [] = omega arith
fewer_without text (x ∷ xs) = by (text_eq text x.0) (fewer_without text xs)
  where
    by : (b : Bool) → length (without text xs) ≤ length xs → length (cond b (without text xs) (x ∷ without text xs)) ≤ suc (length xs)
    by true r = omega arith
    by false r = omega arith

listed_without : (t : Tree) (text : List ℕ) (es : Entries) → AreListed t es → AreListed t (without text es)
listed_without t text es listed = record {
  good = λ q target at. by q target (text_eq text q) refl at;
  distinct = distinct_without text es listed.distinct;
  few = let few = listed.few in let less = fewer_without text es in omega arith;
}
  where
    by : (q : List ℕ) (target : Target) (b : Bool) → text_eq text q ≡ b → lookup (text_eq q) (without text es) ≡ Some target → IsTrue (is_entry_name q) × IsTrue (lives_as target.kind t target.name)
    by q target true e at = let none = sym (gone text q es e) ∙ at in cc
    by q target false e at = listed.good q target (sym (others text q es e) ∙ at)

none_listed : (t : Tree) → AreListed t []
unfolding IsDistinct
none_listed t = record { good = λ text target at. cc; distinct = tt; few = omega arith }

-- ---- the root alone
pub sound_root : IsSound root_alone
sound_root = record {
  counted = (counted_none (List ℕ) root_alone.counts, counted_put empty root_alone.counts root_alone.root [] (counted_none Entries root_alone.counts) first_below);
  within = within_insert 65536 empty public_home 1 (within_none 65536) (omega arith);
  rooted = lives_there empty root_alone.root [];
  apart = λ n lives. let no : false ≡ true = sym (ap is_some (get-empty name_cmp n)) ∙ lives in cc;
  listed = λ dir. subst (λ o. AreListed root_alone (unwrap_or o [])) (sym (get-insert name_total (empty {X = Entries}) root_alone.root [] dir)) (at dir (eq_by_cmp name_cmp dir root_alone.root));
}
  where
    first_below : 0 < count_in root_alone.counts public_home
    first_below = let is = count_insert empty public_home 1 public_home ∙ ap (λ b. cond b 1 (count_in empty public_home)) ((eq_by_cmp_equiv home_total).refl public_home) in omega arith

    at : (dir : Name) (b : Bool) → AreListed root_alone (unwrap_or (cond b (Some []) (get (empty {X = Entries} {R = name_cmp}) dir)) [])
    at dir true = none_listed root_alone
    at dir false = subst (λ o. AreListed root_alone (unwrap_or o [])) (sym (get-empty name_cmp dir)) (none_listed root_alone)

-- ---- one more
module _ (t : Tree) (sound : IsSound t) (now : Counts) (dir n : Name) (text : List ℕ) (files_counted : AreCounted t.files now) (dirs_counted : AreCounted t.dirs now) (within : AreWithin 65536 now) (below : n.n < count_in now (home_of n.maker n.own)) (fine : IsTrue (is_entry_name text)) (new : target_at t dir text ≡ None) (room : length (entries_at t dir) < 4096) where
  abbrev pub put_file : Tree
  put_file = record { dirs = changed_at t.dirs dir (joined text File n); files = insert t.files n []; counts = now; root = t.root }

  abbrev pub put_dir : Tree
  put_dir = record { dirs = insert (changed_at t.dirs dir (joined text Dir n)) n []; files = t.files; counts = now; root = t.root }

  more_files : (kind : EntryKind) (q : Name) → IsTrue (lives_as kind t q) → IsTrue (lives_as kind put_file q)
  more_files File q lives = lives_put t.files n [] q lives
  more_files Dir q lives = lives_changed t.dirs dir (joined text File n) q ∙ lives

  more_dirs : (kind : EntryKind) (q : Name) → IsTrue (lives_as kind t q) → IsTrue (lives_as kind put_dir q)
  more_dirs File q lives = lives
  more_dirs Dir q lives = lives_put (changed_at t.dirs dir (joined text Dir n)) n [] q (lives_changed t.dirs dir (joined text Dir n) q ∙ lives)

  pub sound_put_file : lives_as Dir t n ≡ false → IsSound put_file
  sound_put_file no_dir = record {
    counted = (counted_put t.files now n [] files_counted below, counted_changed t.dirs dir (joined text File n) now dirs_counted);
    within = within;
    rooted = more_files Dir t.root sound.rooted;
    apart = λ q lives. lives_changed t.dirs dir (joined text File n) q ∙ by q (eq_by_cmp name_cmp q n) refl lives;
    listed = stays t.dirs dir (joined text File n) (AreListed put_file) [] (λ q. good_in t (entries_at t q) put_file more_files (sound.listed q))
        (λ old. listed_joined put_file (entries_at t dir) text File n old fine new room (lives_there t.files n []));
  }
    where
      by : (q : Name) (b : Bool) → eq_by_cmp name_cmp q n ≡ b → IsTrue (contains_key (insert t.files n []) q) → contains_key t.dirs q ≡ false
      by q true e lives = ap (contains_key t.dirs) (name_exact q n ((Equal-is (name_cmp q n)).0 e)) ∙ no_dir
      by q false e lives = sound.apart q (sym (lived t.files n [] q false e) ∙ lives)

  pub sound_put_dir : lives_as File t n ≡ false → IsSound put_dir
  sound_put_dir no_file = record {
    counted = (files_counted, counted_put (changed_at t.dirs dir (joined text Dir n)) now n [] (counted_changed t.dirs dir (joined text Dir n) now dirs_counted) below);
    within = within;
    rooted = more_dirs Dir t.root sound.rooted;
    apart = λ q lives. apart_at q (eq_by_cmp name_cmp q n) refl lives;
    listed = λ q. subst (λ o. AreListed put_dir (unwrap_or o [])) (sym (get-insert name_total (changed_at t.dirs dir (joined text Dir n)) n [] q)) (at q (eq_by_cmp name_cmp q n));
  }
    where
      apart_at : (q : Name) (b : Bool) → eq_by_cmp name_cmp q n ≡ b → IsTrue (contains_key t.files q) → contains_key (insert (changed_at t.dirs dir (joined text Dir n)) n []) q ≡ false
      apart_at q true e lives = let no : false ≡ true = sym no_file ∙ sym (ap (contains_key t.files) (name_exact q n ((Equal-is (name_cmp q n)).0 e))) ∙ lives in cc
      apart_at q false e lives = lived (changed_at t.dirs dir (joined text Dir n)) n [] q false e ∙ lives_changed t.dirs dir (joined text Dir n) q ∙ sound.apart q lives

      at : (q : Name) (b : Bool) → AreListed put_dir (unwrap_or (cond b (Some []) (get (changed_at t.dirs dir (joined text Dir n)) q)) [])
      at q true = none_listed put_dir
      at q false =
          stays t.dirs dir (joined text Dir n) (AreListed put_dir) [] (λ q. good_in t (entries_at t q) put_dir more_dirs (sound.listed q))
          (λ old. listed_joined put_dir (entries_at t dir) text Dir n old fine new room (lives_there (changed_at t.dirs dir (joined text Dir n)) n [])) q

module _ (t : Tree) (sound : IsSound t) (dir : Name) (text : List ℕ) (home : Home) (fine : IsTrue (is_entry_name text)) (new : target_at t dir text ≡ None) (room : length (entries_at t dir) < 4096) (free : count_in t.counts home < 65536) where
  next_below : count_in t.counts home < count_in (counted t.counts home) home
  next_below = let next = count_next t.counts home in omega arith

  pub sound_file : IsSound (with_file t dir text home)
  sound_file =
      sound_put_file t sound (counted t.counts home) dir (next_name t home) text (counted_more t.files t.counts home sound.counted.0) (counted_more t.dirs t.counts home sound.counted.1) (within_more 65536 t.counts home sound.within free)
      next_below fine new room (next_is_new t.dirs t.counts home sound.counted.1)

  pub sound_dir : IsSound (with_dir t dir text home)
  sound_dir =
      sound_put_dir t sound (counted t.counts home) dir (next_name t home) text (counted_more t.files t.counts home sound.counted.0) (counted_more t.dirs t.counts home sound.counted.1) (within_more 65536 t.counts home sound.within free)
      next_below fine new room (next_is_new t.files t.counts home sound.counted.0)

-- ---- what is put back
module _ (t : Tree) (sound : IsSound t) (dir n : Name) (text : List ℕ) (below : n.n < count_in t.counts (home_of n.maker n.own)) (fine : IsTrue (is_entry_name text)) (new : target_at t dir text ≡ None) (room : length (entries_at t dir) < 4096) where
  pub sound_placed_file : lives_as Dir t n ≡ false → IsSound (placed t dir text File n)
  sound_placed_file no_dir = sound_put_file t sound t.counts dir n text sound.counted.0 sound.counted.1 sound.within below fine new room no_dir

  pub sound_placed_dir : lives_as File t n ≡ false → IsSound (placed t dir text Dir n)
  sound_placed_dir no_file = sound_put_dir t sound t.counts dir n text sound.counted.0 sound.counted.1 sound.within below fine new room no_file

-- ---- changes
module _ (t : Tree) (sound : IsSound t) where
  pub sound_count : (home : Home) (n : ℕ) → n ≤ 65536 → IsSound (with_count t home n)
  sound_count home n le = record {
    counted = (counted_raised t.files t.counts home n sound.counted.0, counted_raised t.dirs t.counts home n sound.counted.1);
    within = within_raised 65536 t.counts home n sound.within le;
    rooted = sound.rooted;
    apart = sound.apart;
    listed = λ dir. good_in t (entries_at t dir) (with_count t home n) same (sound.listed dir);
  }
    where
      same : (kind : EntryKind) (q : Name) → IsTrue (lives_as kind t q) → IsTrue (lives_as kind (with_count t home n) q)
      same File q lives = lives
      same Dir q lives = lives

  pub sound_bytes : (f : Name) (change : List ℕ → List ℕ) → IsSound (record t { files = changed_at t.files f change })
  sound_bytes f change = record {
    counted = (counted_changed t.files f change t.counts sound.counted.0, sound.counted.1);
    within = sound.within;
    rooted = sound.rooted;
    apart = λ n lives. sound.apart n (sym (lives_changed t.files f change n) ∙ lives);
    listed = λ dir. good_in t (entries_at t dir) (record t { files = changed_at t.files f change }) more (sound.listed dir);
  }
    where
      more : (kind : EntryKind) (q : Name) → IsTrue (lives_as kind t q) → IsTrue (lives_as kind (record t { files = changed_at t.files f change }) q)
      more File q lives = lives_changed t.files f change q ∙ lives
      more Dir q lives = lives

  pub sound_without : (dir : Name) (text : List ℕ) → IsSound (without_entry t dir text)
  sound_without dir text = record {
    counted = (sound.counted.0, counted_changed t.dirs dir (without text) t.counts sound.counted.1);
    within = sound.within;
    rooted = lives_changed t.dirs dir (without text) t.root ∙ sound.rooted;
    apart = λ n lives. lives_changed t.dirs dir (without text) n ∙ sound.apart n lives;
    listed = stays t.dirs dir (without text) (AreListed (without_entry t dir text)) [] (λ q. good_in t (entries_at t q) (without_entry t dir text) more (sound.listed q)) (λ old. listed_without (without_entry t dir text) text (entries_at t dir) old);
  }
    where
      more : (kind : EntryKind) (q : Name) → IsTrue (lives_as kind t q) → IsTrue (lives_as kind (without_entry t dir text) q)
      more File q lives = lives
      more Dir q lives = lives_changed t.dirs dir (without text) q ∙ lives

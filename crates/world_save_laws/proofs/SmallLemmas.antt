-- Each change of files and directories keeps them small.
use Rattle.std.proofs.Common.{◌≡◌, ◌≤◌, ◌<◌, ◌+◌, ◌-◌, ℕ, Bool, true, false, cond, List, [], length, take, Option, Some, None, sym, ◌∙◌, subst, arith, length-append}
use Rattle.std.specs.Option.{unwrap_or}
use Rattle.std.specs.FinMap.{FinMap, get, insert, empty, get-empty, get-insert}
use Rattle.std.specs.Ordering.{eq_by_cmp}
use Rattle.std.proofs.lemmas.List.{length-take}
use Rattle.std.proofs.lemmas.Bool.{cond_both}
use Rattle.lam_value.specs.declared.names.Name.{Name}
use Rattle.lam_value.specs.Names.{name_cmp}
use Rattle.lam_value.specs.Homes.{Home, Counts, home_cmp, count_in, counted, IsAboveZero}
use Rattle.lam_value.proofs.Keys.{name_total, home_total}
use Rattle.labelled_files.specs.declared.directory.EntryKind.{EntryKind}
use Rattle.labelled_files.specs.declared.directory.EntryKind.TheVariants.{File, Dir}
use Rattle.labelled_files.specs.Trees.{Tree, public_home, root_alone, bytes_at, appended, with_file, with_dir, placed, with_more, with_first, without_entry, next_name}
use Rattle.labelled_files.proofs.SoundLemmas.{stays}
use Rattle.world_save_laws.specs.EndLaws.{IsSmall}

-- ---- bytes

abbrev IsFew : List ℕ → Type 0
IsFew bytes = length bytes ≤ 1048576

appended_few : (more bytes : List ℕ) → IsFew bytes → IsFew (appended more bytes)
appended_few more bytes few =
    let a = length-append bytes (take (1048576 - length bytes) more) in
    let b = length-take (1048576 - length bytes) more in
    omega arith

front_few : (len : ℕ) (bytes : List ℕ) → IsFew bytes → IsFew (take len bytes)
front_few len bytes few = let b = length-take len bytes in omega arith

new_few : (files : FinMap name_cmp (List ℕ)) (n : Name) → ((q : Name) → IsFew (unwrap_or (get files q) [])) → (q : Name) → IsFew (unwrap_or (get (insert files n []) q) [])
new_few files n few q = subst (λ (o : Option (List ℕ)). IsFew (unwrap_or o [])) (sym (get-insert name_total files n [] q)) (cond_both (eq_by_cmp name_cmp q n) (Some []) (get files q) (λ o. IsFew (unwrap_or o [])) (λ e. omega arith) (λ e. few q))

-- ---- counters

pub more_above : (counts : Counts) (home : Home) (n : ℕ) → 0 < n → IsAboveZero counts → IsAboveZero (insert counts home n)
more_above counts home n positive above h k e = by (eq_by_cmp home_cmp h home) (sym (get-insert home_total counts home n h) ∙ e)
  where
    by : (b : Bool) → cond b (Some n) (get counts h) ≡ Some k → 0 < k
    by true f = let is : n ≡ k = cc in omega arith
    by false f = above h k f

pub none_above : IsAboveZero empty
none_above h k e = let no : None ≡ Some k = sym (get-empty home_cmp h) ∙ e in absurd cc

counted_above : (counts : Counts) (home : Home) → IsAboveZero counts → IsAboveZero (counted counts home)
counted_above counts home above = more_above counts home (count_in counts home + 1) (omega arith) above

-- ---- changes

pub small_root : IsSmall root_alone
small_root = record { few = λ n. subst (λ (o : Option (List ℕ)). IsFew (unwrap_or o [])) (sym (get-empty name_cmp n)) (omega arith); above = more_above empty public_home 1 (omega arith) none_above }

pub small_counts : (t : Tree) (counts : Counts) → IsAboveZero counts → IsSmall t → IsSmall (record t { counts = counts })
small_counts t counts above s = record { few = s.few; above = above }

pub small_file : (t : Tree) (dir : Name) (text : List ℕ) (home : Home) → IsSmall t → IsSmall (with_file t dir text home)
small_file t dir text home s = record { few = new_few t.files (next_name t home) s.few; above = counted_above t.counts home s.above }

pub small_dir : (t : Tree) (dir : Name) (text : List ℕ) (home : Home) → IsSmall t → IsSmall (with_dir t dir text home)
small_dir t dir text home s = record { few = s.few; above = counted_above t.counts home s.above }

pub small_placed : (t : Tree) (dir : Name) (text : List ℕ) (kind : EntryKind) (n : Name) → IsSmall t → IsSmall (placed t dir text kind n)
small_placed t dir text File n s = record { few = new_few t.files n s.few; above = s.above }
small_placed t dir text Dir n s = record { few = s.few; above = s.above }

pub small_more : (t : Tree) (n : Name) (bytes : List ℕ) → IsSmall t → IsSmall (with_more t n bytes)
small_more t n bytes s = record { few = stays t.files n (appended bytes) IsFew [] s.few (appended_few bytes (bytes_at t n)); above = s.above }

pub small_first : (t : Tree) (n : Name) (len : ℕ) → IsSmall t → IsSmall (with_first t n len)
small_first t n len s = record { few = stays t.files n (take len) IsFew [] s.few (front_few len (bytes_at t n)); above = s.above }

pub small_without : (t : Tree) (dir : Name) (text : List ℕ) → IsSmall t → IsSmall (without_entry t dir text)
small_without t dir text s = record { few = s.few; above = s.above }

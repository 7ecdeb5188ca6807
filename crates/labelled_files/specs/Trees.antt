-- What files are seen as, and what their calls make of them.
use Rattle.std.specs.Prelude.{◌≡◌, ◌<◌, ◌≤◌, IsTrue, false, ℕ, ◌-◌, ◌++◌, ◌∷◌, Bool, not, nat_eq, if◌then◌else◌, List, [], length, take, Option, Some, None, is_some, unwrap_or, refl}
use Rattle.std.specs.Coded.{Coded, code_by, coded×, coded_list, coded_ℕ}
use Rattle.std.specs.FinMap as map
use Rattle.std.specs.FinMap.{FinMap, get, insert}
use Rattle.std.specs.Map.{lookup, keys_of}
use Rattle.std.specs.List.{IsDistinct, slice_index}
use Rattle.lam_value.specs.Label.{Label}
use Rattle.lam_value.specs.Flow.{flows, public_label}
use Rattle.lam_value.specs.declared.names.Name.{Name}
use Rattle.lam_value.specs.Names.{name_cmp, coded_name}
use Rattle.lam_value.specs.Homes.{Home, Counts, coded_counts, home_of, name_of, count_in, counted as counted_more, raised, AreCounted, AreWithin}
use Rattle.labelled_files.specs.declared.directory.Target.{Target}
use Rattle.labelled_files.specs.declared.directory.EntryKind.{EntryKind}
use Rattle.labelled_files.specs.declared.directory.EntryKind.TheVariants.{File, Dir}
use Rattle.labelled_files.specs.contracts.directory.Target as target
use Rattle.labelled_files.specs.declared.files.FileFault.{FileFault}
use Rattle.labelled_files.specs.declared.files.FileFault.TheVariants.{BadName, Exists, DirFull, HomeFull}
use Rattle.labelled_files.specs.Entries.{Entries, text_eq, is_entry_name, entry_of, without}

-- The entries of each directory, the bytes of each file, how many files and directories each home has made, and
-- the name of the root. A directory lives where it has entries here, if only none, and a file where it has bytes.
pub record Tree : Type 0 where
  pub dirs : FinMap name_cmp Entries
  pub files : FinMap name_cmp (List ℕ)
  pub counts : Counts
  pub root : Name

abbrev pub coded_tree : Coded Tree
coded_tree =
    code_by (FinMap name_cmp Entries × (FinMap name_cmp (List ℕ) × (Counts × Name)))
    (coded× (map.code coded_name (coded_list (coded× (coded_list coded_ℕ) target.the_row.coded))) (coded× (map.code coded_name (coded_list coded_ℕ)) (coded× coded_counts coded_name)))
    (λ t. (t.dirs, (t.files, (t.counts, t.root)))) (λ p. record { dirs = p.0; files = p.1.0; counts = p.1.1.0; root = p.1.1.1 }) (λ _. refl)

-- the home of the root
abbrev pub public_home : Home
public_home = home_of public_label public_label

-- an empty directory alone, the first thing of the public home
abbrev pub root_alone : Tree
root_alone = record {
  dirs = insert map.empty (name_of public_home 0) [];
  files = map.empty;
  counts = insert map.empty public_home 1;
  root = name_of public_home 0;
}

-- whether a file or a directory of that name lives
abbrev pub lives_as : EntryKind → Tree → Name → Bool
lives_as File t n = map.contains_key t.files n
lives_as Dir t n = map.contains_key t.dirs n

-- the entries of a directory, none where it does not live
abbrev pub entries_at : Tree → Name → Entries
entries_at t dir = unwrap_or (get t.dirs dir) []

-- what the entry of a name leads to, if there is one
abbrev pub target_at : Tree → Name → List ℕ → Option Target
target_at t dir text = lookup (text_eq text) (entries_at t dir)

-- the bytes of a file, none where it does not live
abbrev pub bytes_at : Tree → Name → List ℕ
bytes_at t f = unwrap_or (get t.files f) []

-- a change of what lives under a name, where something does
abbrev pub changed : {X : Type 0} → Option X → FinMap name_cmp X → Name → (X → X) → FinMap name_cmp X
changed None m n f = m
changed (Some x) m n f = insert m n (f x)

abbrev pub changed_at : {X : Type 0} → FinMap name_cmp X → Name → (X → X) → FinMap name_cmp X
changed_at m n f = changed (get m n) m n f

-- a directory has at most this many entries
abbrev pub most_entries : ℕ
most_entries = 4096

-- a home makes at most this many files and directories
abbrev pub most_files : ℕ
most_files = 65536

-- a file has at most this many bytes
abbrev pub most_bytes : ℕ
most_bytes = 1048576

-- every number is a byte
abbrev pub AreBytes : List ℕ → Type 0
AreBytes xs = (i : ℕ) → slice_index xs i < 256

-- why nothing can be made at a number: the first of these that holds, in this order
abbrev pub fault_at : Tree → Name → List ℕ → ℕ → Option FileFault
fault_at t dir text number =
    if not (is_entry_name text) then Some BadName
    else (if is_some (target_at t dir text) then Some Exists
    else (if nat_eq (length (entries_at t dir)) most_entries then Some DirFull
    else (if nat_eq number most_files then Some HomeFull else None)))

-- why nothing of a home can be made, at its next number
abbrev pub first_fault : Tree → Name → List ℕ → Home → Option FileFault
first_fault t dir text home = fault_at t dir text (count_in t.counts home)

-- the name that a home's next file or directory gets
abbrev pub next_name : Tree → Home → Name
next_name t home = name_of home (count_in t.counts home)

-- one more entry, the last
abbrev pub joined : List ℕ → EntryKind → Name → Entries → Entries
joined text kind name es = es ++ entry_of text kind name ∷ []

-- one more file, which is empty, and its entry; all else stays
abbrev pub with_file : Tree → Name → List ℕ → Home → Tree
with_file t dir text home = record {
  dirs = changed_at t.dirs dir (joined text File (next_name t home));
  files = insert t.files (next_name t home) [];
  counts = counted_more t.counts home;
  root = t.root;
}

-- one more directory, which is empty, and its entry; all else stays
abbrev pub with_dir : Tree → Name → List ℕ → Home → Tree
with_dir t dir text home = record {
  dirs = insert (changed_at t.dirs dir (joined text Dir (next_name t home))) (next_name t home) [];
  files = t.files;
  counts = counted_more t.counts home;
  root = t.root;
}

-- why nothing can be put under a name that is given: no home can be full there
abbrev pub place_fault : Tree → Name → List ℕ → Option FileFault
place_fault t dir text = fault_at t dir text 0

-- a file or a directory of that name, which is empty, and its entry; all else stays
abbrev pub placed : Tree → Name → List ℕ → EntryKind → Name → Tree
placed t dir text File n = record t { dirs = changed_at t.dirs dir (joined text File n); files = insert t.files n [] }
placed t dir text Dir n = record t { dirs = insert (changed_at t.dirs dir (joined text Dir n)) n [] }

-- a home has made so many at least; all else stays
abbrev pub with_count : Tree → Home → ℕ → Tree
with_count t home n = record t { counts = raised t.counts home n }

-- an entry is gone; all else stays, and what it led to lives on
abbrev pub without_entry : Tree → Name → List ℕ → Tree
without_entry t dir text = record t { dirs = changed_at t.dirs dir (without text) }

-- bytes, and after them the front of more that fits
abbrev pub appended : List ℕ → List ℕ → List ℕ
appended more bytes = bytes ++ take (most_bytes - length bytes) more

-- more bytes at the end of a file
abbrev pub with_more : Tree → Name → List ℕ → Tree
with_more t f more = record t { files = changed_at t.files f (appended more) }

-- the first bytes of a file stay
abbrev pub with_first : Tree → Name → ℕ → Tree
with_first t f len = record t { files = changed_at t.files f (take len) }

-- ---- what holds of all files and directories

-- the number of each is below its home's counter, so that the name of a home's next one does not live
abbrev pub IsWellCounted : Tree → Type 0
IsWellCounted t = AreCounted t.files t.counts × AreCounted t.dirs t.counts

-- no home has made more than a home may make
abbrev pub IsWithinLimit : Tree → Type 0
IsWithinLimit t = AreWithin most_files t.counts

-- the root is a directory
abbrev pub IsRooted : Tree → Type 0
IsRooted t = IsTrue (lives_as Dir t t.root)

-- nothing is a file and a directory
abbrev pub AreApart : Tree → Type 0
AreApart t = (n : Name) → IsTrue (lives_as File t n) → lives_as Dir t n ≡ false

-- an entry has a name that an entry may have, and leads to what lives as its kind
abbrev pub AreGood : Tree → Entries → Type 0
AreGood t es = (text : List ℕ) (target : Target) → lookup (text_eq text) es ≡ Some target → IsTrue (is_entry_name text) × IsTrue (lives_as target.kind t target.name)

-- the entries of a directory: no two have the same name, and there are no more than a directory may have
pub record AreListed (t : Tree) (es : Entries) : Type 0 where
  pub good : AreGood t es
  pub distinct : IsDistinct text_eq (keys_of es)
  pub few : length es ≤ most_entries

pub record IsSound (t : Tree) : Type 0 where
  pub counted : IsWellCounted t
  pub within : IsWithinLimit t
  pub rooted : IsRooted t
  pub apart : AreApart t
  pub listed : (dir : Name) → AreListed t (entries_at t dir)

-- ---- what is equal in two where an observer sees

-- the entries of each directory and the bytes of each file whose label flows to the observer's
abbrev pub AreSeenAlike : Label → Tree → Tree → Type 0
AreSeenAlike o t u = (n : Name) → IsTrue (flows n.own o) → (get t.dirs n ≡ get u.dirs n) × (get t.files n ≡ get u.files n)

-- Where nothing is at fault, there is room for one more.
use Rattle.std.proofs.Common.{◌≡◌, ◌≤◌, ◌<◌, ℕ, Bool, true, false, List, length, Option, Some, None, is_some, refl, sym, ap, subst, ◌∙◌, arith}
use Rattle.std.specs.Prelude.{IsTrue, not, nat_eq, if◌then◌else◌}
use Rattle.std.specs.Map.{lookup}
use Rattle.std.proofs.lemmas.Bool.Decides.{nat_tests}
use Rattle.lam_value.specs.declared.names.Name.{Name}
use Rattle.lam_value.specs.Homes.{Counts}
use Rattle.labelled_files.specs.declared.directory.Directory.{Directory}
use Rattle.labelled_files.specs.declared.contents.Contents.{Contents}
use Rattle.labelled_files.specs.declared.files.FileFault.{FileFault}
use Rattle.labelled_files.specs.declared.files.FileFault.TheVariants.{BadName, Exists, DirFull, HomeFull}
use Rattle.labelled_files.specs.Entries.{text_eq, is_entry_name}
use Rattle.labelled_files.specs.Trees.{Tree, entries_at, target_at, fault_at, IsSound}
use Rattle.labelled_files.specs.Seen.{at, tree_of}
use Rattle.labelled_files.proofs.SeenLemmas.{entries_seen}

abbrev fault_of : Bool → Bool → Bool → Bool → Option FileFault
fault_of a b c d = if not a then Some BadName else (if b then Some Exists else (if c then Some DirFull else (if d then Some HomeFull else None)))

all_clear : (a b c d : Bool) → fault_of a b c d ≡ None → (a ≡ true) × ((b ≡ false) × ((c ≡ false) × (d ≡ false)))
all_clear true false false false e = (refl, (refl, (refl, refl)))
all_clear a b c d e = cc

is_none : {X : Type 0} (o : Option X) → is_some o ≡ false → o ≡ None
is_none None e = refl
is_none (Some x) e = cc

below : (n m : ℕ) → n ≤ m → nat_eq n m ≡ false → n < m
below n m le apart = grind (arith, nat_tests)

module _ (t : Tree) (dir : Name) (text : List ℕ) (number : ℕ) (clear : fault_at t dir text number ≡ None) where
  clears : (is_entry_name text ≡ true) × ((is_some (target_at t dir text) ≡ false) × ((nat_eq (length (entries_at t dir)) 4096 ≡ false) × (nat_eq number 65536 ≡ false)))
  clears = all_clear (is_entry_name text) (is_some (target_at t dir text)) (nat_eq (length (entries_at t dir)) 4096) (nat_eq number 65536) clear

  pub fine : IsTrue (is_entry_name text)
  fine = clears.0

  pub new : target_at t dir text ≡ None
  new = is_none (target_at t dir text) clears.1.0

  pub room : IsSound t → length (entries_at t dir) < 4096
  room sound = below (length (entries_at t dir)) 4096 (sound.listed dir).few clears.1.1.0

  pub free : number ≤ 65536 → number < 65536
  free le = below number 65536 le clears.1.1.1

  -- in the maps in which they are kept
  module _ (ds : List (Name × Directory)) (fs : List (Name × Contents)) (counts : Counts) (root : Name) (seen : tree_of ds fs counts root ≡ t) where
    pub room_kept : IsSound t → length (at ds dir) < 4096
    room_kept sound = subst (λ es. length es < 4096) (sym (entries_seen ds fs counts root t seen dir)) (room sound)

    pub new_kept : lookup (text_eq text) (at ds dir) ≡ None
    new_kept = ap (lookup (text_eq text)) (entries_seen ds fs counts root t seen dir) ∙ new

-- What can be reached from the root, and files and directories that hold just that of others.
use Rattle.std.specs.Prelude.{◌≡◌, ℕ, IsTrue, List, [], ◌∷◌}
use Rattle.std.specs.FinMap.{get}
use Rattle.lam_value.specs.declared.names.Name.{Name}
use Rattle.labelled_files.specs.declared.directory.EntryKind.{EntryKind}
use Rattle.labelled_files.specs.declared.directory.EntryKind.TheVariants.{File, Dir}
use Rattle.labelled_files.specs.Trees.{Tree, lives_as}
use Rattle.world_forest.specs.Forest.{LeadsTo}

-- entries of these names, the last of them first, lead from the root to a file or directory
abbrev pub IsAt : Tree → List (List ℕ) → EntryKind → Name → Type 0
IsAt t [] kind n = (kind ≡ Dir) × (n ≡ t.root)
IsAt t (text ∷ way) kind n = (dir : Name) × (IsAt t way Dir dir × LeadsTo t dir text (record { kind = kind; name = n }))

abbrev pub IsReached : Tree → EntryKind → Name → Type 0
IsReached t kind n = (way : List (List ℕ)) × IsAt t way kind n

-- the same root and counters; what the root reaches has the same entries in their order and the same bytes; and nothing else
-- is there
pub record HoldsReached (t u : Tree) : Type 0 where
  pub root : u.root ≡ t.root
  pub counts : u.counts ≡ t.counts
  pub dirs : (n : Name) → IsReached t Dir n → get u.dirs n ≡ get t.dirs n
  pub files : (n : Name) → IsReached t File n → get u.files n ≡ get t.files n
  pub only : (kind : EntryKind) (n : Name) → IsTrue (lives_as kind u n) → IsReached t kind n

-- Files and directories as a forest: each of them stands in one entry at most, and the root in none.
--
-- What an entry led to lives on when the entry is gone, and then stands nowhere. From the root down there is no way but
-- one to each that is reached.
use Rattle.std.specs.Prelude.{◌≡◌, IsTrue, List, ℕ, Some}
use Rattle.lam_value.specs.declared.names.Name.{Name}
use Rattle.labelled_files.specs.declared.directory.Target.{Target}
use Rattle.labelled_files.specs.Trees.{Tree, lives_as, target_at}

-- the entry of this name in this directory leads there
abbrev pub LeadsTo : Tree → Name → List ℕ → Target → Type 0
LeadsTo t dir text x = target_at t dir text ≡ Some x

pub record IsForest (t : Tree) : Type 0 where
  -- what an entry leads to lives
  pub lives : (dir : Name) (text : List ℕ) (x : Target) → LeadsTo t dir text x → IsTrue (lives_as x.kind t x.name)
  -- two entries that lead to one name are one entry
  pub once :
      (dir dir' : Name) (text text' : List ℕ) (x x' : Target) → LeadsTo t dir text x → LeadsTo t dir' text' x' → x.name ≡ x'.name →
      (dir ≡ dir') × (text ≡ text')
  -- no entry leads to the root
  pub root : (dir : Name) (text : List ℕ) (x : Target) → LeadsTo t dir text x → x.name ≡ t.root → ⊥

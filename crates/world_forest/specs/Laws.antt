-- What keeps a forest: each call on files and directories.
use Rattle.std.specs.Prelude.{◌≡◌, ℕ, List, false}
use Rattle.lam_value.specs.declared.names.Name.{Name}
use Rattle.lam_value.specs.Homes.{Home}
use Rattle.labelled_files.specs.declared.directory.EntryKind.{EntryKind}
use Rattle.labelled_files.specs.declared.directory.EntryKind.TheVariants.{File, Dir}
use Rattle.labelled_files.specs.Trees.{Tree, root_alone, lives_as, with_file, with_dir, placed, with_count, without_entry, with_more, with_first, IsSound}
use Rattle.world_forest.specs.Forest.{IsForest}

-- what is made, or put under a name that does not live, stands there alone; nothing else comes to stand anywhere
pub record CallsKeepForests : Type 0 where
  pub root : IsForest root_alone
  pub file : (t : Tree) (dir : Name) (text : List ℕ) (home : Home) → IsSound t → IsForest t → IsForest (with_file t dir text home)
  pub dir : (t : Tree) (dir : Name) (text : List ℕ) (home : Home) → IsSound t → IsForest t → IsForest (with_dir t dir text home)
  pub placed :
      (t : Tree) (dir : Name) (text : List ℕ) (kind : EntryKind) (n : Name) → IsSound t → IsForest t → lives_as File t n ≡ false → lives_as Dir t n ≡ false → IsForest (placed t dir text kind n)
  pub removed : (t : Tree) (dir : Name) (text : List ℕ) → IsForest t → IsForest (without_entry t dir text)
  pub more : (t : Tree) (f : Name) (bytes : List ℕ) → IsForest t → IsForest (with_more t f bytes)
  pub less : (t : Tree) (f : Name) (len : ℕ) → IsForest t → IsForest (with_first t f len)
  pub counted : (t : Tree) (home : Home) (n : ℕ) → IsForest t → IsForest (with_count t home n)

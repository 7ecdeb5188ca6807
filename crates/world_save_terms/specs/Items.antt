-- The files and directories that can be reached from the root, each directory followed by what it holds, entries in
-- their order.
--
-- A directory `d` with the file `x` in it, and the file `y`, are the items `d`, `d/x` and `y`.
use Rattle.std.specs.Prelude.{◌≡◌, ℕ, zero, suc, List, [], ◌∷◌, ◌++◌, codes, refl}
use Rattle.std.specs.List.{All, flat_map}
use Rattle.std.specs.FinMap.{len}
use Rattle.flow_labels.specs.TwoLists.{Text}
use Rattle.labelled_files.specs.Name.{Name}
use Rattle.labelled_files.specs.declared.directory.Target.{Target}
use Rattle.labelled_files.specs.declared.directory.EntryKind.{EntryKind}
use Rattle.labelled_files.specs.declared.directory.EntryKind.TheVariants.{File, Dir}
use Rattle.labelled_files.specs.Trees.{Tree, entries_at, bytes_at}
use Rattle.hex.specs.Hex.{IsBytes}

-- what an entry leads to, with the entry names on the way from the root
pub record Item : Type 0 where
  pub path : Text
  pub target : Target

-- the path of an entry, in the directory of a path; that of the root is empty
abbrev pub below : Text → Text → Text
below [] text = text
below (b ∷ bs) text = b ∷ (bs ++ 47 ∷ text)

-- a file holds nothing
abbrev pub held_by : EntryKind → List Item → List Item
held_by File items = []
held_by Dir items = items

-- an entry of the directory of a path, followed by what it holds, of which the function tells
abbrev pub at_entry : (Text → Name → List Item) → Text → Text × Target → List Item
at_entry inside path e = record { path = below path e.0; target = e.1 } ∷ held_by e.1.kind (inside (below path e.0) e.1.name)

-- what a directory with a path holds, down to a depth
unfoldable pub items_below : ℕ → Tree → Text → Name → List Item
items_below zero t path dir = []
items_below (suc depth) t path dir = flat_map (at_entry (items_below depth t) path) (entries_at t dir)

-- what the root holds: directories nest no deeper than there are directories
abbrev pub items_of : Tree → List Item
items_of t = items_below (len t.dirs) t [] t.root

-- what the files among them hold are bytes
abbrev pub HoldBytes : Tree → Type 0
HoldBytes t = All (λ (i : Item). IsBytes (bytes_at t i.target.name)) (items_of t)

-- ---- worked examples
in_the_root : below [] (codes "x") ≡ codes "x"
in_the_root = refl

in_a_directory : below (codes "a/b") (codes "x") ≡ codes "a/b/x"
in_a_directory = refl

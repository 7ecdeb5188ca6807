-- The steps of a walk, each told by the path before it.
--
-- After the path `d/x` the step with the entry `y` that keeps one byte is `d/y`, and the one that keeps none is `y`.
use Rattle.std.specs.Prelude.{◌≡◌, ℕ, ◌+◌, List, [], ◌∷◌, map, length, take, codes, refl}
use Rattle.json.specs.Print.{escape}
use Rattle.flow_labels.specs.TwoLists.{Text}
use Rattle.lam_value.specs.declared.names.Name.{Name}
use Rattle.labelled_files.specs.declared.directory.EntryKind.{EntryKind}
use Rattle.labelled_files.specs.declared.directory.EntryKind.TheVariants.{File, Dir}
use Rattle.labelled_files.specs.Trees.{Tree}
use Rattle.world_save_terms.specs.Items.{Item, below as under, items_of}
use Rattle.world_save_items.specs.declared.traversal.Step.{Step}
use Rattle.world_save_items.specs.declared.traversal.Frame.{Frame}
use Rattle.world_save_items.specs.Measures.{capped}

-- ---- what was found

pub record Found : Type 0 where
  pub cut : ℕ
  pub bytes : ℕ
  pub entry : Text
  pub kind : EntryKind
  pub name : Name

-- what a step in code is seen as
abbrev pub found : Step → Found
found s = record { cut = s.cut; bytes = s.bytes; entry = s.entry.now; kind = s.kind; name = s.name.now }

-- the path of what was found, after a path
abbrev pub path_of : Text → Found → Text
path_of path f = under (take f.cut path) f.entry

-- the items of steps, the first of which is told by a path
abbrev pub items_from : Text → List Found → List Item
items_from path [] = []
items_from path (f ∷ fs) = record { path = path_of path f; target = record { kind = f.kind; name = f.name } } ∷ items_from (path_of path f) fs

-- each says how many bytes its path takes
abbrev pub AreMeasured : Text → List Found → Type 0
AreMeasured path [] = Unit {0}
AreMeasured path (f ∷ fs) = (f.bytes ≡ capped (length (escape (path_of path f)))) × AreMeasured (path_of path f) fs

-- all that can be reached from the root
pub record IsWalk (t : Tree) (steps : List Step) : Type 0 where
  pub items : items_from [] (map found steps) ≡ items_of t
  pub measured : AreMeasured [] (map found steps)

-- ---- what is still to be done

pub record Todo : Type 0 where
  pub dir : Name
  pub next : ℕ
  pub cut : ℕ
  pub bytes : ℕ

-- what a frame in code is seen as
abbrev pub todo : Frame → Todo
todo f = record { dir = f.dir.now; next = f.next; cut = f.cut; bytes = f.bytes }

abbrev pub found_at : Todo → Text → Text → EntryKind → Name → Found
found_at f path entry kind name = record { cut = f.cut; bytes = capped (length (escape path)); entry = entry; kind = kind; name = name }

-- a directory with a path, from its first entry on
abbrev pub whole_dir : Name → Text → Todo
whole_dir dir path = record { dir = dir; next = 0; cut = length path; bytes = capped (length (escape path)) }

-- a file holds nothing to be done
abbrev pub inside : EntryKind → Todo → List Todo
inside File below = []
inside Dir below = below ∷ []

-- what is to be done after the entry at the place of a frame: what comes after it, and before that what it holds
abbrev pub todo_after : Todo → EntryKind → Todo → List Todo
todo_after f kind below = record f { next = f.next + 1 } ∷ inside kind below

-- ---- worked examples

a_step : ℕ → Text → Name → Found
a_step cut entry name = record { cut = cut; bytes = 0; entry = entry; kind = File; name = name }

keeps_one : (n : Name) → path_of (codes "d/x") (a_step 1 (codes "y") n) ≡ codes "d/y"
unfolding a_step
keeps_one n = refl

keeps_none : (n : Name) → path_of (codes "d/x") (a_step 0 (codes "y") n) ≡ codes "y"
unfolding a_step
keeps_none n = refl

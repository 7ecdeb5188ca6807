-- Why files and directories are not saved: a label that has no text, a path that has none, a text that is too long.
use Rattle.std.specs.Prelude.{◌≡◌, ◌≤◌, ◌⊎◌, ℕ, IsTrue, not, List, length, Option, position}
use Rattle.std.specs.List.{Contains}
use Rattle.std.specs.Str.{is_utf8}
use Rattle.std.specs.FinMap.{contains_key}
use Rattle.std.specs.FinSet.{contains}
use Rattle.flow_labels.specs.TwoLists.{Text}
use Rattle.flow_labels.specs.declared.Label.{Label}
use Rattle.labelled_files.specs.Homes.{Home}
use Rattle.labelled_files.specs.Trees.{Tree}
use Rattle.world_save_terms.specs.Items.{Item, items_of}

-- ---- tags without a name

abbrev pub IsTagOf : ℕ → Label → Type 0
IsTagOf tag l = IsTrue (contains l.s tag) ⊎ IsTrue (contains l.i tag)

-- the label of an item, or that of its maker
abbrev pub IsItemLabel : Tree → Label → Type 0
IsItemLabel t l = (i : Item) × (Contains (items_of t) i × ((l ≡ i.target.name.own) ⊎ (l ≡ i.target.name.maker)))

-- a label of a home that is counted
abbrev pub IsHomeLabel : Tree → Label → Type 0
IsHomeLabel t l = (h : Home) × (IsTrue (contains_key t.counts h) × ((l ≡ h.own) ⊎ (l ≡ h.maker)))

-- a tag that has no name stands in a label that would be written
abbrev pub IsUnnamed : List Text → Tree → ℕ → Type 0
IsUnnamed names t tag = (length names ≤ tag) × ((l : Label) × ((IsItemLabel t l ⊎ IsHomeLabel t l) × IsTagOf tag l))

abbrev pub AllNamed : List Text → Tree → Type 0
AllNamed names t = (tag : ℕ) → IsUnnamed names t tag → ⊥

pub record IsLeastUnnamed (names : List Text) (t : Tree) (tag : ℕ) : Type 0 where
  pub is : IsUnnamed names t tag
  pub least : (other : ℕ) → IsUnnamed names t other → tag ≤ other

-- ---- paths without a text

-- the first item whose path is not UTF-8
abbrev pub bad_path : Tree → Option ℕ
bad_path t = position (λ (i : Item). not (is_utf8 i.path)) (items_of t)

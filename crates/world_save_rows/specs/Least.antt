-- The least tag of those that are without a name.
use Rattle.std.specs.Prelude.{◌≡◌, ◌≤◌, ◌⊎◌, ℕ, IsTrue, List, [], ◌∷◌, Option, Some, None}
use Rattle.std.specs.FinSet.{contains}
use Rattle.flow_labels.specs.Tags.{Tags}
use Rattle.flow_labels.specs.declared.Label.{Label}
use Rattle.world_save_terms.specs.Refusals.{IsTagOf}
use Rattle.world_save_rows.specs.declared.home_list.HomeCount.{HomeCount}

-- the least number of a kind, if there is one
abbrev pub IsLeastOf : (ℕ → Type 0) → Option ℕ → Type 0
IsLeastOf P None = (t : ℕ) → P t → ⊥
IsLeastOf P (Some t) = P t × ((u : ℕ) → P u → t ≤ u)

-- a tag of a set from a number on: the tags below it have names
abbrev pub IsFrom : ℕ → Tags → ℕ → Type 0
IsFrom count s t = (count ≤ t) × IsTrue (contains s t)

-- such a tag of a label, and of a home's labels
abbrev pub IsInLabel : ℕ → Label → ℕ → Type 0
IsInLabel count l t = (count ≤ t) × IsTagOf t l

abbrev pub IsInHome : ℕ → HomeCount → ℕ → Type 0
IsInHome count h t = IsInLabel count h.maker.now t ⊎ IsInLabel count h.own.now t

-- and of the labels of a list of homes
abbrev pub IsAmong : ℕ → List HomeCount → ℕ → Type 0
IsAmong count [] t = ⊥
IsAmong count (h ∷ hs) t = IsInHome count h t ⊎ IsAmong count hs t

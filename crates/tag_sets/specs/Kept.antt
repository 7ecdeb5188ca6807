-- The tags that a list holds: none, one that stands in it, or those of a slice.
use Rattle.std.specs.Prelude.{ℕ, List, [], ◌∷◌}
use Rattle.tag_sets.specs.declared.shared.Held.{Held}
use Rattle.tag_sets.specs.declared.shared.Held.TheVariants.{Empty, One, Shared}

abbrev pub kept : {S : Type 0} → (S → List ℕ) → Held S → List ℕ
kept items Empty = []
kept items (One t) = t ∷ []
kept items (Shared s) = items s

-- How the building of lists meets the definitions.
use Rattle.std.specs.Prelude.{ℕ, zero, suc}
use Rattle.lam_resolve_tree.specs.Tree.{ResolvedGiven}

-- what the first argument gives, where argument i gives g and f was noted before it
abbrev pub first_of : ℕ → ResolvedGiven → ResolvedGiven → ResolvedGiven
first_of zero f g = g
first_of (suc i) f g = f

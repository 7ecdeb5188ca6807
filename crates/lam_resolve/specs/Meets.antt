-- How the building of lists meets the definitions.
use Rattle.std.specs.Prelude.{◌≡◌, ℕ, List, ◌∷◌, ◌++◌, map, Some}
use Rattle.lam_syntax.specs.Tree.{ItemTree, ProgramTree}
use Rattle.lam_operators.specs.Words.{Word}
use Rattle.lam_resolve_tree.specs.Tree.{ResolvedType, ResolvedFunction}
use Rattle.lam_resolve_laws.specs.Resolved.{then_some, Tables, types_of, resolve_functions}

-- for each class its fields' types
abbrev pub types_of_all : List (List (Word × ResolvedType)) → List (List ResolvedType)
types_of_all cs = map types_of cs

-- one more item of a program: what stands after it comes after so many regions, and its function at the end
abbrev pub IsAdded : Tables → ℕ → ItemTree → ℕ → List ResolvedFunction → List ResolvedFunction → Type 0
IsAdded t m item n old new =
    (p : ProgramTree) → then_some (resolve_functions t m (item ∷ p)) (λ fs. Some (old ++ fs)) ≡ then_some (resolve_functions t n p) (λ fs. Some (new ++ fs))

-- How the building of lists meets the definitions.
use Rattle.std.specs.Prelude.{◌≡◌, List, ◌++◌, Option, Some}
use Rattle.lam_resolve_laws.specs.Resolved.{then_some}

-- what there is of more stands at the end
abbrev pub IsJoined : {A : Type 0} → List A → Option (List A) → List A → Type 0
IsJoined old more new = Some new ≡ then_some more (λ bs. Some (old ++ bs))

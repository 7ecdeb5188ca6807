-- Units, each with its operations thinned.
use Rattle.std.specs.Prelude.{Bool, List, [], ◌∷◌}
use Rattle.lam_bytecode.specs.declared.unit.CodeUnit.{CodeUnit}
use Rattle.thinned_code.specs.Thinned.{thin_unit}

-- by which of its operations stay, as far as that is told
abbrev pub thin_each : List (List Bool) → List CodeUnit → List CodeUnit
thin_each [] us = []
thin_each (ks ∷ kss) [] = []
thin_each (ks ∷ kss) (u ∷ us) = thin_unit ks u ∷ thin_each kss us

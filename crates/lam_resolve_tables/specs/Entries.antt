-- What the definitions see of named values.
use Rattle.std.specs.Prelude.{◌-◌, List, take, length}
use Rattle.lam_operators.specs.Words.{Word}
use Rattle.lam_types_kinds.specs.Values.{keyed}
use Rattle.lam_resolve_tables.specs.declared.named.Named.{Named}

abbrev pub entries_of : {X : Type 0} → Named X → List (Word × X)
entries_of n = keyed n.entries.items

abbrev pub shorter : {X : Type 0} → List X → List X
shorter xs = take (length xs - 1) xs

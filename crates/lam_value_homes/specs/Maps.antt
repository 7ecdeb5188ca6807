-- What is seen of a hash map's entries: a finite map of what is seen of the values.
use Rattle.std.specs.Prelude.{List, map}
use Rattle.std.specs.declared.cmp.Ordering.{Ordering}
use Rattle.std.specs.FinMap.{FinMap, from_entries}

abbrev pub seen_at : {K X Y : Type 0} → (R : K → K → Ordering) → (X → Y) → List (K × X) → FinMap R Y
seen_at {K} {X} {Y} R f es = from_entries (map {B = K × Y} (λ (e : K × X). (e.0, f e.1)) es)

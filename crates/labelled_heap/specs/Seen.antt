-- What is seen of a heap's own rows: the things of each home, by number.
use Rattle.std.specs.Prelude.{◌≡◌, ◌<◌, ◌+◌, ◌++◌, ℕ, zero, suc, List, [], ◌∷◌, Option, Some, None, length, slice_get, slice_set, unwrap_or}
use Rattle.std.specs.Option.{option_map}
use Rattle.std.specs.HashMap.{HashMap, IsUnique}
use Rattle.std.specs.Map.{lookup}
use Rattle.lam_value.specs.declared.names.Name.{Name}
use Rattle.lam_value.specs.declared.values.Value.{Value}
use Rattle.lam_value.specs.Names.{name_cmp}
use Rattle.lam_value.specs.Homes.{Home, Counts, home_of, home_eq, name_of, count_in}
use Rattle.lam_value.specs.Maps.{seen_at}
use Rattle.labelled_heap.specs.declared.heap.Thing.{Thing}
use Rattle.labelled_heap.specs.declared.heap.Row.{Row}
use Rattle.labelled_heap.specs.Things.{Things, IsSound}

-- the things of a home from a number on, each with its name
abbrev pub named_from : Home → ℕ → List Thing → List (Name × Thing)
named_from h n [] = []
named_from h n (t ∷ ts) = (name_of h n, t) ∷ named_from h (n + 1) ts

-- the things of all homes, each with its name
abbrev pub things_in : List (Home × Row) → List (Name × Thing)
things_in [] = []
things_in (row ∷ rows) = named_from row.0 0 row.1.things.items ++ things_in rows

-- the things of a row, none where there is no row
abbrev pub items_of : Option Row → List Thing
items_of None = []
items_of (Some row) = row.things.items

-- the things of a home, none where it has made none
abbrev pub row_at : List (Home × Row) → Home → List Thing
row_at rows h = items_of (lookup (home_eq h) rows)

-- the thing of a name: the one at its number among those of its home
abbrev pub thing_at : List (Home × Row) → Name → Option Thing
thing_at rows n = slice_get (row_at rows (home_of n.maker n.own)) n.n

-- the slots of the thing at a number, none where there is none
abbrev pub slots_in : List Thing → ℕ → List Value
slots_in ts n = unwrap_or (option_map (λ (t : Thing). t.slots) (slice_get ts n)) []

-- the things, where a slot of the one at a number holds another value
abbrev pub written_in : List Thing → ℕ → ℕ → Value → List Thing
written_in [] n at v = []
written_in (t ∷ ts) zero at v = record t { slots = slice_set t.slots at v } ∷ ts
written_in (t ∷ ts) (suc n) at v = t ∷ written_in ts n at v

abbrev pub things_of : List (Name × Thing) → Counts → Things
things_of es counts = record {
  slots = seen_at name_cmp (λ (t : Thing). t.slots) es;
  sorts = seen_at name_cmp (λ (t : Thing). t.sort) es;
  counts = counts;
}

-- each home stands once, with a thing at least
pub record AreRows {S : Type 0} (rows : HashMap Home Row S) : Type 0 where
  pub unique : IsUnique home_eq rows
  pub filled : (h : Home) (row : Row) → lookup (home_eq h) rows.entries ≡ Some row → 0 < length row.things.items

-- what holds of the rows and the counters of every heap: the next number of a home is how many things it has
pub record AreSound {S : Type 0} (rows : HashMap Home Row S) (counts : Counts) : Type 0 where
  pub kept : AreRows rows
  pub in_step : (h : Home) → length (row_at rows.entries h) ≡ count_in counts h
  pub sound : IsSound (things_of (things_in rows.entries) counts)

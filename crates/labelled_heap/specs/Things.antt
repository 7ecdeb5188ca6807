-- What a heap is seen as, and what its calls make of it.
use Rattle.std.specs.Prelude.{◌≡◌, IsTrue, ℕ, List, [], Option, Some, None, unwrap_or, slice_set, refl}
use Rattle.std.specs.Coded.{Coded, code_by, coded×, coded_list}
use Rattle.std.specs.FinMap as map
use Rattle.std.specs.FinMap.{FinMap, get, insert}
use Rattle.lam_value.specs.Label.{Label}
use Rattle.lam_value.specs.Flow.{flows}
use Rattle.lam_value.specs.declared.names.Name.{Name}
use Rattle.lam_value.specs.declared.values.Value.{Value}
use Rattle.lam_value.specs.declared.shapes.Shape.{Shape}
use Rattle.lam_value.specs.declared.shapes.Shape.TheVariants.{Class, Array as AnArray}
use Rattle.lam_value.specs.contracts.values.Value as value
use Rattle.lam_value.specs.Names.{name_cmp, coded_name}
use Rattle.lam_value.specs.Homes.{Home, Counts, coded_counts, name_of, count_in, counted as counted_more, AreCounted, AreWithin}
use Rattle.labelled_heap.specs.declared.heap.Sort.{Sort}
use Rattle.labelled_heap.specs.declared.heap.Sort.TheVariants.{Object, Array}
use Rattle.labelled_heap.specs.contracts.heap.Sort as sort

-- The slots of each thing, what each thing is, and how many things each home has made. A thing lives where it
-- has slots.
pub record Things : Type 0 where
  pub slots : FinMap name_cmp (List Value)
  pub sorts : FinMap name_cmp Sort
  pub counts : Counts

abbrev pub coded_things : Coded Things
coded_things =
    code_by (FinMap name_cmp (List Value) × (FinMap name_cmp Sort × Counts)) (coded× (map.code coded_name (coded_list value.the_row.coded)) (coded× (map.code coded_name sort.the_row.coded) coded_counts))
    (λ h. (h.slots, (h.sorts, h.counts))) (λ p. record { slots = p.0; sorts = p.1.0; counts = p.1.1 }) (λ _. refl)

abbrev pub no_things : Things
no_things = record { slots = map.empty; sorts = map.empty; counts = map.empty }

-- what a thing of a shape is
abbrev pub sort_of : Shape → Sort
sort_of (Class class fields) = Object class
sort_of (AnArray kind len) = Array kind

-- the slots of a thing, none where it does not live
abbrev pub slots_at : Things → Name → List Value
slots_at h n = unwrap_or (get h.slots n) []

-- a change of the slots of a thing, where it lives
abbrev pub changed_at : Option (List Value) → Things → Name → (List Value → List Value) → Things
changed_at None h n f = h
changed_at (Some xs) h n f = record h { slots = insert h.slots n (f xs) }

-- one slot of one thing holds another value; all else stays
abbrev pub with_slot : Things → Name → ℕ → Value → Things
with_slot h n at v = changed_at (get h.slots n) h n (λ xs. slice_set xs at v)

-- one more thing of a home, at its next number; all else stays
abbrev pub with_thing : Things → Home → Sort → List Value → Things
with_thing h home s xs = record {
  slots = insert h.slots (name_of home (count_in h.counts home)) xs;
  sorts = insert h.sorts (name_of home (count_in h.counts home)) s;
  counts = counted_more h.counts home;
}

-- one more sort of a home's thing, if there is one
abbrev pub sorted_as : Option Sort → FinMap name_cmp Sort → Name → FinMap name_cmp Sort
sorted_as None m n = m
sorted_as (Some s) m n = insert m n s

-- one more thing of a home, which holds what another holds and is what that is
abbrev pub with_copy : Things → Name → Home → Things
with_copy h n home = record {
  slots = insert h.slots (name_of home (count_in h.counts home)) (slots_at h n);
  sorts = sorted_as (get h.sorts n) h.sorts (name_of home (count_in h.counts home));
  counts = counted_more h.counts home;
}

-- ---- what holds of every heap

-- the number of each thing is below its home's counter, so that the name of a home's next thing does not live
abbrev pub IsWellCounted : Things → Type 0
IsWellCounted h = AreCounted h.slots h.counts

-- a home makes at most this many things
abbrev pub most_things : ℕ
most_things = 1048576

-- no home has made more things than a home may make
abbrev pub IsWithinLimit : Things → Type 0
IsWithinLimit h = AreWithin most_things h.counts

-- what has slots is something, and what is something has slots
abbrev pub IsWellSorted : Things → Type 0
IsWellSorted h = (n : Name) → map.contains_key h.sorts n ≡ map.contains_key h.slots n

pub record IsSound (h : Things) : Type 0 where
  pub counted : IsWellCounted h
  pub within : IsWithinLimit h
  pub sorted : IsWellSorted h

-- ---- what is equal in two heaps where an observer sees

-- the slots of each thing whose label flows to the observer's
abbrev pub AreSeenAlike : Label → Things → Things → Type 0
AreSeenAlike o h k = (n : Name) → IsTrue (flows n.own o) → get h.slots n ≡ get k.slots n

-- Which thread the answer of a walk names.
use Rattle.std.specs.Prelude.{◌≡◌, ◌<◌, ℕ, length, Option, Some, None, slice_get}
use Rattle.source_walk_terms.specs.declared.Walked.{Walked}
use Rattle.source_walk_terms.specs.declared.Walked.TheVariants.{Same, Departs}
use Rattle.source_walk_run.specs.declared.departures.Departures.{Departures}

-- no thread below a number departs
abbrev pub NoneBelow : Departures → ℕ → Type 0
NoneBelow d n = (u : ℕ) (at : Option ℕ) → u < n → slice_get d.places.items u ≡ Some at → at ≡ None

-- the first thread that departs, with the place, if one does; else the number of all asks
abbrev pub IsFirstDeparture : Departures → Walked → Type 0
IsFirstDeparture d (Same asks) = NoneBelow d (length d.places.items) × (asks ≡ d.asks)
IsFirstDeparture d (Departs thread ask) = NoneBelow d thread × (slice_get d.places.items thread ≡ Some (Some ask))

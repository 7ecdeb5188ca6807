-- A home is a pair of a maker's label and an own label, and things are numbered home by home: names by home.
use Rattle.std.specs.Prelude.{ℕ, ◌<◌, IsTrue}
use Rattle.std.specs.FinMap.{FinMap, contains_key}
use Rattle.lam_value.specs.declared.names.Name.{Name}
use Rattle.lam_value.specs.Names.{name_cmp}
pub use Rattle.lam_value_homes.specs.Homes.{Home, coded_home, home_of, home_cmp, Counts, coded_counts, count_in, counted, raised, AreWithin, IsAboveZero, AreSeenAlike, label_eq, home_eq, IsListing, homes_in, home_in, AreHomes}

-- the name of a home's thing with a number
abbrev pub name_of : Home → ℕ → Name
name_of h n = record { maker = h.maker; own = h.own; n = n }

-- the number of each name in a map is below its home's counter, so that the name of a home's next thing is not there
abbrev pub AreCounted : {X : Type 0} → FinMap name_cmp X → Counts → Type 0
AreCounted things m = (n : Name) → IsTrue (contains_key things n) → n.n < count_in m (home_of n.maker n.own)

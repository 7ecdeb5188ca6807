-- What the definitions see of the code's table.
use Rattle.std.specs.Prelude.{List, [], ◌∷◌, ◌++◌, replicate, Option, option_map}
use Rattle.guarded_code.specs.Changes.{Any, Only, Change, Loads, Stores, Tests, Trades}
use Rattle.guarded_code.specs.Changes as changes
use Rattle.code_verify_tables.specs.declared.places.Place.{Place}
use Rattle.code_verify_tables.specs.declared.places.Place.TheVariants as place
use Rattle.code_verify_tables.specs.declared.places.FewPlaces.{FewPlaces}
use Rattle.code_verify_tables.specs.declared.places.FewPlaces.TheVariants.{Zero, One, Two, Three}
use Rattle.code_verify_tables.specs.declared.places.Places.{Places}
use Rattle.code_verify_tables.specs.declared.places.OpChange.{OpChange}
use Rattle.code_verify_tables.specs.declared.places.OpChange.TheVariants as does

abbrev pub place_seen : Place → changes.Place
place_seen place.Any = Any
place_seen (place.Only kind) = Only kind

abbrev pub places_of_option : Option Place → Option changes.Place
places_of_option o = option_map place_seen o

abbrev pub few_seen : FewPlaces → List changes.Place
few_seen Zero = []
few_seen (One a) = place_seen a ∷ []
few_seen (Two a b) = place_seen a ∷ place_seen b ∷ []
few_seen (Three a b c) = place_seen a ∷ place_seen b ∷ place_seen c ∷ []

abbrev pub places_seen : Places → List changes.Place
places_seen p = replicate p.count (place_seen p.each) ++ few_seen p.few

abbrev pub change_seen : OpChange → Change
change_seen (does.Loads n) = Loads n
change_seen (does.Stores n) = Stores n
change_seen (does.Tests access depth) = Tests access depth
change_seen (does.Trades takes gives) = Trades (places_seen takes) gives

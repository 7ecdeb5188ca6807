-- Where the asks of a thread leave those of its source.
use Rattle.std.specs.Prelude.{◌≡◌, ◌≢◌, ◌<◌, ℕ, List, length, take, slice_get}
use Rattle.lam_asks.specs.declared.ask.Ask.{Ask}

-- up to this place the asks are those that the source makes, and the one that stands there is not: the source makes
-- another one at that place, or none
pub record DepartsAt (asked made : List Ask) (place : ℕ) : Type 0 where
  pub before : take place asked ≡ take place made
  pub there : place < length asked
  pub differs : slice_get made place ≢ slice_get asked place

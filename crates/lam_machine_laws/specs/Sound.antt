-- What every turn keeps of the stores and the limits.
use Rattle.std.specs.Prelude.{◌≡◌, ℕ, ◌≤◌, IsTrue, length, Some}
use Rattle.std.specs.FinMap.{contains_key}
use Rattle.lam_value.specs.declared.values.Value.{Value}
use Rattle.lam_value.specs.declared.values.Value.TheVariants.{Obj, Arr}
use Rattle.lam_machine_effects.specs.What.{What}
use Rattle.lam_machine_effects.specs.What.TheVariants.{Private, Asked}
use Rattle.lam_machine_effects.specs.Ask.{Ask}
use Rattle.lam_machine_effects.specs.Ask.TheVariants.{CopyTo}
use Rattle.lam_machine_effects.specs.Codes.{CodeTree}
use Rattle.lam_machine_effects.specs.Limits.{most_tags, most_threads}
use Rattle.lam_machine_effects.specs.Worlds.{World}
use Rattle.lam_machine_effects.specs.Turns.{Moment, step}
use Rattle.lam_machine_effects.specs.Valid.{AreSoundStores}

-- each store is sound, and there are no more tags and threads than there may be
pub record IsSoundWorld (w : World) : Type 0 where
  pub stores : AreSoundStores w
  pub tags : w.next_tag ≤ most_tags
  pub threads : length w.threads ≤ most_threads

abbrev pub ThingLives : World → Value → Type 0
ThingLives w (Obj n) = IsTrue (contains_key w.heap.slots n)
ThingLives w (Arr n len) = IsTrue (contains_key w.heap.slots n)
ThingLives w v = Unit {0}

abbrev pub CopiesLiving : World → Ask → Type 0
CopiesLiving w (CopyTo r l) = ThingLives w r
CopiesLiving w a = Unit {0}

-- what a turn copies lives
abbrev pub FindsLiving : World → What → Type 0
FindsLiving w Private = Unit {0}
FindsLiving w (Asked a x) = CopiesLiving w a

abbrev pub StaysSound : CodeTree → Type 0
StaysSound code = (w : World) (t : ℕ) (m : Moment) → IsSoundWorld w → step code w t ≡ Some m → FindsLiving w m.event.what → IsSoundWorld m.world

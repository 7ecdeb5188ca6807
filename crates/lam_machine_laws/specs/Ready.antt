-- That a service of the monitor can be applied.
use Rattle.std.specs.Prelude.{◌≡◌, ℕ, true}
use Rattle.lam_machine_effects.specs.Ask.{Ask}
use Rattle.lam_machine_effects.specs.Threads.{Context}
use Rattle.lam_machine_effects.specs.Worlds.{World}
use Rattle.lam_machine_effects.specs.Serving.{serve}
use Rattle.lam_machine_effects.specs.Turns.{is_ready}
use Rattle.lam_machine_effects.specs.Parts.{stores_of}
use Rattle.lam_machine_effects.specs.Room.{HasRoom}
use Rattle.lam_machine_laws.specs.Sound.{CopiesLiving}

-- the service of an ask that is ready has room in the stores, where the ask copies what lives
abbrev pub ServedHasRoom : Type 0
ServedHasRoom = (w : World) (t : ℕ) (c : Context) (a : Ask) → is_ready w t c a ≡ true → CopiesLiving w a → HasRoom t (serve w c a).effect (stores_of w)

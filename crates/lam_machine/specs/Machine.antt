-- What a step of a thread is, and what it needs.
use Rattle.std.specs.Prelude.{◌≡◌, ℕ, Option, Some, None}
use Rattle.lam_asks.specs.declared.answer.Event.{Event}
use Rattle.lam_bytecode.specs.Codes.{CodeTree}
use Rattle.lam_machine_terms.specs.Worlds.{World}
use Rattle.lam_machine_terms.specs.Turns.{Moment, step}
use Rattle.lam_machine_laws.specs.Sound.{FindsLiving}
use Rattle.lam_machine_laws.specs.Turned.{IsTurn}

-- what a turn of a thread copies lives
abbrev pub CopiesLive : CodeTree → World → ℕ → Type 0
CopiesLive code w t = (m : Moment) → step code w t ≡ Some m → FindsLiving w m.event.what

-- one turn of a thread, where it is ready; else there is none, and the world stays as it is
abbrev pub IsStep : CodeTree → ℕ → World → Option Event → World → Type 0
IsStep code t w None after = (step code w t ≡ None) × (after ≡ w)
IsStep code t w (Some e) after = IsTurn code t w e after

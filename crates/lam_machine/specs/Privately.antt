-- A turn of a thread where it is private, and many of them in a row.
use Rattle.std.specs.Prelude.{◌≡◌, ℕ, zero, suc, Bool, true, false, Option, Some, None}
use Rattle.lam_asks.specs.declared.answer.What.TheVariants.{Private}
use Rattle.lam_asks.specs.declared.answer.Event.{Event}
use Rattle.lam_bytecode.specs.Codes.{CodeTree}
use Rattle.thread_steps.specs.Threads.{Thread}
use Rattle.thread_steps.specs.Next as next
use Rattle.lam_machine_terms.specs.Worlds.{World, thread_at}
use Rattle.lam_machine_laws.specs.Turned.{IsTurn}
use Rattle.lam_machine.specs.Asking.{label_at}

abbrev pub is_private_standing : next.Standing → Bool
is_private_standing next.is_private = true
is_private_standing next.is_shared = false
is_private_standing next.is_stuck = false
is_private_standing next.is_ended = false

abbrev pub has_private_turn : CodeTree → Option Thread → Bool
has_private_turn code None = false
has_private_turn code (Some th) = is_private_standing (next.standing code th)

abbrev pub private_event : World → ℕ → Event
private_event w t = record { label = label_at w t; thread = t; what = Private }

-- the next turn of a thread is private, and was taken; or it is not, and the world is as it was
unfoldable pub IsPrivateStep : CodeTree → ℕ → World → Bool → World → Type 0
IsPrivateStep code t w true after = (has_private_turn code (thread_at w t) ≡ true) × IsTurn code t w (private_event w t) after
IsPrivateStep code t w false after = (has_private_turn code (thread_at w t) ≡ false) × (after ≡ w)

-- a thread took so many turns in a row, each of them private
abbrev pub ArePrivateSteps : CodeTree → ℕ → ℕ → World → World → Type 0
ArePrivateSteps code t zero before after = after ≡ before
ArePrivateSteps code t (suc n) before after = (w : World) × ArePrivateSteps code t n before w × IsPrivateStep code t w true after

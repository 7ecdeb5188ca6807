-- A thread that was asked for a private turn.
use Rattle.std.proofs.Common.{◌≡◌, ℕ, Bool, true, false, Result, Ok, Err, OnErr, subst}
use Rattle.lam_bytecode.specs.Codes.{CodeTree}
use Rattle.lam_machine_terms.specs.Worlds.{World}
use Rattle.lam_machine_laws.specs.Turned.{IsTurn}
use Rattle.lam_machine.specs.Privately.{IsPrivateStep, private_event}

pub on_err : {A E P : Type 0} (r : Result A E) → P → OnErr r P
on_err (Ok x) p = tt
on_err (Err e) p = p

module _ (code : CodeTree) (t : ℕ) (w : World) (taken : Bool) (after : World) where
  -- it took one
  pub was_private : IsPrivateStep code t w taken after → taken ≡ true → IsTurn code t w (private_event w t) after
  unfolding IsPrivateStep
  was_private h e = let k = subst (λ b. IsPrivateStep code t w b after) e h in k.1

  -- it has none, and the world is as it was
  pub was_not : IsPrivateStep code t w taken after → taken ≡ false → after ≡ w
  unfolding IsPrivateStep
  was_not h e = let k = subst (λ b. IsPrivateStep code t w b after) e h in k.1

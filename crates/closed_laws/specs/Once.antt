-- From each start the schedule has one run that ends, whatever the number of open turns that it may take.
use Rattle.std.specs.Prelude.{◌≡◌, ℕ, ◌≤◌, List, length}
use Rattle.flow_labels.specs.declared.Label.{Label}
use Rattle.lam_machine_effects.specs.Codes.{CodeTree}
use Rattle.lam_machine_effects.specs.Worlds.{World}
use Rattle.closed_terms.specs.declared.End.{End}
use Rattle.closed_terms.specs.Schedule.{first_slot, IsClosed}
use Rattle.closed_terms.specs.Ends.{most_turns, IsEnded, IsFront}

pub record EndsOnce (code : CodeTree) (b : Label) : Type 0 where
  pub some : (n : ℕ) (start : World) → (turns : List ℕ) × (e : End) × IsEnded b code n e turns start
  -- with the same turns and the same end
  pub one :
      (n : ℕ) (start : World) (turns turns' : List ℕ) (e e' : End) →
      IsEnded b code n e turns start → IsEnded b code n e' turns' start → (turns ≡ turns') × (e ≡ e')
  -- it is a closed run, and has no more turns than one may have
  pub closed : (n : ℕ) (start : World) (turns : List ℕ) (e : End) → IsEnded b code n e turns start → IsClosed b code turns start first_slot
  pub within : (n : ℕ) (start : World) (turns : List ℕ) (e : End) → IsEnded b code n e turns start → length turns ≤ most_turns
  -- a run that does not end before its last turn is closed too
  pub fronts : (n : ℕ) (start : World) (turns : List ℕ) → IsFront b code n turns start → IsClosed b code turns start first_slot

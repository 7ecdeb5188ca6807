-- Runs turn by turn.
use Rattle.std.specs.Prelude.{◌≡◌, ◌⊎◌, ◌↔◌, ℕ, false, List, [], ◌∷◌, ◌++◌, length, take, Some, slice_get}
use Rattle.lam_machine_terms.specs.Codes.{CodeTree}
use Rattle.lam_machine_terms.specs.Worlds.{World}
use Rattle.lam_machine_terms.specs.Turns.{Moment, step, ready, moments, replay, IsRun}

pub record RunsJoin (code : CodeTree) : Type 0 where
  pub joins : (w : World) (front back : List ℕ) → IsRun code (front ++ back) w ↔ (IsRun code front w × IsRun code back (replay code front w))
  pub moments_join :
      (w : World) (front back : List ℕ) → IsRun code front w →
      moments code (front ++ back) w ≡ moments code front w ++ moments code back (replay code front w)
  pub replays_join : (w : World) (front back : List ℕ) → IsRun code front w → replay code (front ++ back) w ≡ replay code back (replay code front w)
  -- one turn more
  pub grows :
      (w : World) (turns : List ℕ) (t : ℕ) (m : Moment) → IsRun code turns w → step code (replay code turns w) t ≡ Some m →
      IsRun code (turns ++ t ∷ []) w × (moments code (turns ++ t ∷ []) w ≡ moments code turns w ++ m ∷ []) × (replay code (turns ++ t ∷ []) w ≡ m.world)

-- the turn at a place is of a thread that is not ready in the world that the turns before it leave
abbrev pub StopsAt : CodeTree → World → List ℕ → ℕ → Type 0
StopsAt code w turns k = (t : ℕ) × (slice_get turns k ≡ Some t) × (ready code (replay code turns w) t ≡ false)

pub record RunsStop (code : CodeTree) : Type 0 where
  -- a run has a moment for each turn
  pub whole : (w : World) (turns : List ℕ) → IsRun code turns w ↔ (length (moments code turns w) ≡ length turns)
  -- as many turns as there are moments are a run, with the same moments
  pub front : (w : World) (turns : List ℕ) → let n = length (moments code turns w) in IsRun code (take n turns) w × (moments code (take n turns) w ≡ moments code turns w)
  -- and either these are all turns, or the next is of a thread that is not ready
  pub stops : (w : World) (turns : List ℕ) → IsRun code turns w ⊎ StopsAt code w turns (length (moments code turns w))

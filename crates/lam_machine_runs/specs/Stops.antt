-- Where turns stop to be a run.
use Rattle.std.specs.Prelude.{ℕ, List, length, Option, slice_get}
use Rattle.std.specs.Option.{option_map}
use Rattle.lam_machine_terms.specs.Codes.{CodeTree}
use Rattle.lam_machine_terms.specs.Worlds.{World}
use Rattle.lam_machine_terms.specs.Turns.{moments}

-- the first of the turns whose thread is not ready
pub record NotReady : Type 0 where
  pub turn : ℕ
  pub thread : ℕ

-- turns are counted from 0
abbrev pub stopped_at : CodeTree → List ℕ → World → Option NotReady
stopped_at code turns w = option_map (λ t. record { turn = length (moments code turns w); thread = t }) (slice_get turns (length (moments code turns w)))

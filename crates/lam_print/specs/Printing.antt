-- What a step of the printer writes.
use Rattle.std.specs.Prelude.{◌≡◌, ℕ, List, ◌++◌}
use Rattle.lam_print.specs.Pieces.{Piece, written}

-- The text grew from the old bytes to the new ones by the pieces that f puts before others.
pub record Puts (old new : List ℕ) (f : List Piece → List Piece) : Type 0 where
  pub gives : (ps : List Piece) → old ++ written (f ps) ≡ new ++ written ps

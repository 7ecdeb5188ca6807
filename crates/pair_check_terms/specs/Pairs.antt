-- Which answer is given of two runs.
use Rattle.std.specs.Prelude.{◌≡◌, ℕ, Bool, true, false, ◌||◌, min, List, length, take, slice_get, Some}
use Rattle.flow_labels.specs.declared.Label.{Label}
use Rattle.lam_machine_terms.specs.Worlds.{World}
use Rattle.lam_machine_terms.specs.Turns.{Moment}
use Rattle.lam_machine_terms.specs.Views.{Item, turn, past, agenda}
use Rattle.lam_machine_terms.specs.Views as views
use Rattle.pair_check_terms.specs.declared.answer.PairAnswer.{PairAnswer}
use Rattle.pair_check_terms.specs.declared.answer.PairAnswer.TheVariants.{WorldsDiffer, TurnsDiffer, ReleaseDiffers, Agree}
use Rattle.pair_check_terms.specs.Parts.{IsFirstPart}

abbrev pub is_turn : Item → Bool
is_turn (turn thread) = true
is_turn (past release) = false

-- two agendas are equal up to a place, and there they have two entries that differ, one of them a turn or none
pub record DifferAt (has_turn : Bool) (n : ℕ) (xs ys : List Item) : Type 0 where
  pub same : take n xs ≡ take n ys
  pub left : Item
  pub right : Item
  pub left_at : slice_get xs n ≡ Some left
  pub right_at : slice_get ys n ≡ Some right
  pub differ : left ≡ right → ⊥
  pub kind : (is_turn left || is_turn right) ≡ has_turn

-- two agendas are equal as far as both go
pub record GoTogether (n : ℕ) (xs ys : List Item) : Type 0 where
  pub same : take n xs ≡ take n ys
  pub whole : n ≡ min (length xs) (length ys)

-- what is to be said of two agendas, where the starts agree
abbrev pub IsMet : List Item → List Item → PairAnswer → Type 0
IsMet xs ys (WorldsDiffer what) = ⊥
IsMet xs ys (TurnsDiffer n) = DifferAt true n xs ys
IsMet xs ys (ReleaseDiffers n) = DifferAt false n xs ys
IsMet xs ys (Agree n) = GoTogether n xs ys

-- the first part in which the starts differ; where they agree, what is to be said of the agendas
abbrev pub IsPairedBy : Label → World → World → List Item → List Item → PairAnswer → Type 0
IsPairedBy o s s' xs ys (WorldsDiffer what) = IsFirstPart o s s' what
IsPairedBy o s s' xs ys answer = views.Agree o s s' × IsMet xs ys answer

-- what is to be said of two runs, by their starts and moments
abbrev pub IsPaired : Label → World → List Moment → World → List Moment → PairAnswer → Type 0
IsPaired o s ms s' ms' answer = IsPairedBy o s s' (agenda o ms) (agenda o ms') answer

-- How many of the turns of a run are of each thread.
use Rattle.std.specs.Prelude.{◌≡◌, ◌+◌, ◌<◌, ℕ, nat_eq, List, length, get_or, slice_set}
use Rattle.std.specs.List.{count_by}

-- how many of the turns are of a thread
abbrev pub turns_of : ℕ → List ℕ → ℕ
turns_of u turns = count_by (λ t. nat_eq t u) turns

-- these are the numbers of turns of so many threads
abbrev pub AreTurnsOf : List ℕ → ℕ → List ℕ → Type 0
AreTurnsOf turns threads counts = (length counts ≡ threads) × ((u : ℕ) → u < threads → get_or counts u 0 ≡ turns_of u turns)

-- one more at a place
abbrev pub counted : ℕ → List ℕ → List ℕ
counted t ns = slice_set ns t (get_or ns t 0 + 1)

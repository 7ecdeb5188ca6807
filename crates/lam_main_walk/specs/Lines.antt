-- The line of a thread that departs from its source. No plan has it, since no thread of a run of a program's own code does.
use Rattle.std.specs.Prelude.{ℕ, [], ◌∷◌, codes, decimal}
use Rattle.lam_main_words.specs.Words.{Text}
use Rattle.lam_main_replay.specs.Refusals.{line}

-- the line of the thread that departs, and of the place of its ask
abbrev pub departs_line : ℕ → ℕ → Text
departs_line thread ask = line (codes "departs " ∷ decimal thread ∷ codes " " ∷ decimal ask ∷ [])

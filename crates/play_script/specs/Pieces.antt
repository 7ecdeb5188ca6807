-- A text and its pieces between marks: a script's lines, a line's words.
use Rattle.std.specs.Prelude.{ℕ, Bool, not, nat_eq, if◌then◌else◌, List, [], ◌∷◌, ◌++◌, map}
use Rattle.std.specs.List.{list_all}
use Rattle.std.specs.Borrow.{Bor}

abbrev pub Word : Type 0
Word = List ℕ

abbrev pub onto_first : ℕ → List Word → List Word
onto_first b [] = (b ∷ []) ∷ []
onto_first b (p ∷ ps) = (b ∷ p) ∷ ps

-- the pieces of a text between the marks: `a,,b` cut at `,` is `a`, nothing and `b`
abbrev pub pieces : ℕ → Word → List Word
pieces mark [] = [] ∷ []
pieces mark (b ∷ bs) = if nat_eq b mark then [] ∷ pieces mark bs else onto_first b (pieces mark bs)

abbrev pub after_mark : ℕ → List Word → Word
after_mark mark [] = []
after_mark mark (w ∷ ws) = mark ∷ (w ++ after_mark mark ws)

-- words with one mark between each two
abbrev pub parted : ℕ → List Word → Word
parted mark [] = []
parted mark (w ∷ ws) = w ++ after_mark mark ws

-- lines, each ended by a line feed
abbrev pub ended : List Word → Word
ended [] = []
ended (l ∷ ls) = l ++ 10 ∷ ended ls

abbrev pub lacks : ℕ → Word → Bool
lacks mark w = list_all (λ b. not (nat_eq b mark)) w

abbrev pub each_lacks : ℕ → List Word → Bool
each_lacks mark ws = list_all (λ w. lacks mark w) ws

abbrev pub texts : List (Bor Word) → List Word
texts ks = map (λ k. k.now) ks

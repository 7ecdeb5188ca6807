-- The text of a book: which thread takes each turn of a run.
--
-- The head line, and then a line for each longest stretch of turns of one thread: its number and how many
-- turns it takes, in decimal. The turns 0, 0, 0, 7, 0 are the lines `0 3`, `7 1` and `0 1`; no turns are
-- the head line alone.
use Rattle.std.specs.Prelude.{◌≡◌, ℕ, ◌+◌, ◌<◌, ◌≤◌, false, nat_eq, if◌then◌else◌, List, [], ◌∷◌, ◌++◌, length, All, codes, decimal, replicate, refl}
use Rattle.decimal_text.specs.Decimal.{IsDecimal}
use Rattle.turn_book.specs.declared.BookFault.{BookFault}
use Rattle.turn_book.specs.declared.BookFault.TheVariants.{BadHead, BadLine, SameThread, TooMany, NoMemory}
use Rattle.turn_book.specs.Limits.{most_turns, last_thread}

abbrev pub Text : Type 0
Text = List ℕ

-- a thread, and how many turns in a row it takes
pub record Stretch : Type 0 where
  pub thread : ℕ
  pub count : ℕ

-- a turn before stretches
abbrev pub with_turn : ℕ → List Stretch → List Stretch
with_turn t [] = record { thread = t; count = 1 } ∷ []
with_turn t (s ∷ ss) = if nat_eq t s.thread then record { thread = t; count = s.count + 1 } ∷ ss else record { thread = t; count = 1 } ∷ s ∷ ss

-- the longest stretches of one thread
abbrev pub stretches : List ℕ → List Stretch
stretches [] = []
stretches (t ∷ ts) = with_turn t (stretches ts)

-- the turns of stretches
abbrev pub expanded : List Stretch → List ℕ
expanded [] = []
expanded (s ∷ ss) = replicate s.count s.thread ++ expanded ss

-- the next stretch, if there is one, is of another thread
abbrev pub Differs : ℕ → List Stretch → Type 0
Differs t [] = Unit {0}
Differs t (s ∷ ss) = nat_eq t s.thread ≡ false

-- no stretch is empty, and none goes on in the next
abbrev pub AreLongest : List Stretch → Type 0
AreLongest [] = Unit {0}
AreLongest (s ∷ ss) = (0 < s.count) × Differs s.thread ss × AreLongest ss

-- the stretches of turns are the one list of longest stretches that are those turns
abbrev pub StretchesAreLongest : Type 0
StretchesAreLongest = (ts : List ℕ) (ss : List Stretch) → (stretches ts ≡ ss → (expanded ss ≡ ts) × AreLongest ss) × (expanded ss ≡ ts → AreLongest ss → stretches ts ≡ ss)

abbrev pub head : Text
head = codes "lam book 1" ++ 10 ∷ []

-- the line of a stretch, with its line feed, and what stands after it
abbrev pub line_text : Stretch → Text → Text
line_text s rest = decimal s.thread ++ 32 ∷ (decimal s.count ++ 10 ∷ rest)

abbrev pub lines_text : List Stretch → Text
lines_text [] = []
lines_text (s ∷ ss) = line_text s (lines_text ss)

abbrev pub book : List ℕ → Text
book ts = head ++ lines_text (stretches ts)

-- how many turns and which threads a book may have
pub record AreTurns (ts : List ℕ) : Type 0 where
  pub few : length ts ≤ most_turns
  pub threads : All (λ t. t ≤ last_thread) ts

-- ---- faults

-- the text begins with the line of a stretch of a thread of a book, however many turns it has
pub record BeginsWithLine (text : Text) (s : Stretch) : Type 0 where
  pub thread : Text
  pub count : Text
  pub rest : Text
  pub thread_is : IsDecimal thread s.thread
  pub count_is : IsDecimal count s.count
  pub low : s.thread ≤ last_thread
  pub some : 0 < s.count
  pub text_is : text ≡ thread ++ 32 ∷ (count ++ 10 ∷ rest)

-- the last turn is the thread's
abbrev pub LastIs : List ℕ → ℕ → Type 0
LastIs ts t = (before : List ℕ) × (ts ≡ before ++ t ∷ [])

-- what stands after the book of some turns begins with no line, although something stands there
pub record IsNoLine (rest : Text) : Type 0 where
  pub more : 0 < length rest
  pub no_line : (s : Stretch) → ¬ BeginsWithLine rest s

-- the next line is one of the thread that took the last turn
abbrev pub IsOfLastThread : List ℕ → Text → Type 0
IsOfLastThread ts rest = (s : Stretch) × BeginsWithLine rest s × LastIs ts s.thread

-- the next line is one of another thread, and makes too many turns
abbrev pub IsTooLong : List ℕ → Text → Type 0
IsTooLong ts rest = (s : Stretch) × BeginsWithLine rest s × (¬ LastIs ts s.thread) × (most_turns < length ts + s.count)

-- The lines before a line are the book of some turns, whose stretches are one for each line. Line 1 is
-- the head.
pub record BooksBefore (text : Text) (line : ℕ) (ts : List ℕ) (rest : Text) : Type 0 where
  pub turns : AreTurns ts
  pub text_is : text ≡ book ts ++ rest
  pub line_is : line ≡ length (stretches ts) + 2

-- Why a text is no book: the least broken line, and what is broken in it. Want of memory says nothing of
-- the text.
abbrev pub IsBroken : Text → BookFault → Type 0
IsBroken text NoMemory = Unit {0}
IsBroken text BadHead = (rest : Text) → ¬ (text ≡ head ++ rest)
IsBroken text (BadLine line) = (ts : List ℕ) × (rest : Text) × BooksBefore text line ts rest × IsNoLine rest
IsBroken text (SameThread line) = (ts : List ℕ) × (rest : Text) × BooksBefore text line ts rest × IsOfLastThread ts rest
IsBroken text (TooMany line) = (ts : List ℕ) × (rest : Text) × BooksBefore text line ts rest × IsTooLong ts rest

-- ---- worked examples
three_stretches : book (0 ∷ 0 ∷ 0 ∷ 7 ∷ 0 ∷ []) ≡ head ++ (decimal 0 ++ 32 ∷ (decimal 3 ++ 10 ∷ (decimal 7 ++ 32 ∷ (decimal 1 ++ 10 ∷ (decimal 0 ++ 32 ∷ (decimal 1 ++ 10 ∷ []))))))
three_stretches = refl

no_turns : book [] ≡ codes "lam book 1" ++ 10 ∷ []
no_turns = refl

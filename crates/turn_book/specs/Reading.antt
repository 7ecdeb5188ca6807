-- How a book is read: line after line, on top of the turns so far.
use Rattle.std.specs.Prelude.{◌≡◌, ℕ, ◌+◌, ◌-◌, ◌^◌, Bool, false, ◌&&◌, nat_eq, nat_lt, nat_le, min, if◌then◌else◌, List, [], ◌∷◌, ◌++◌, length, take, drop, Option, Some, None, Result, Ok, Err, replicate, codes, refl}
use Rattle.std.specs.List.{slice_get}
use Rattle.std.specs.Str.{bytes_eq}
use Rattle.decimal_text.specs.Decimal.{number_of}
use Rattle.turn_book.specs.Book.{Text, Stretch, head}
use Rattle.turn_book.specs.declared.BookFault.{BookFault}
use Rattle.turn_book.specs.declared.BookFault.TheVariants.{BadHead, BadLine, SameThread, TooMany, NoMemory}
use Rattle.turn_book.specs.Limits.{most_turns, last_thread}

infixl 10 ◌>>=◌
abbrev pub ◌>>=◌ : {A B : Type 0} → Result A BookFault → (A → Result B BookFault) → Result B BookFault
(Ok x) >>= f = f x
(Err e) >>= f = Err e

abbrev pub onto : ℕ → Option (Text × Text) → Option (Text × Text)
onto b None = None
onto b (Some p) = Some (b ∷ p.0, p.1)

-- what stands before the first mark, and after it
abbrev pub cut : ℕ → Text → Option (Text × Text)
cut mark [] = None
cut mark (b ∷ bs) = if nat_eq b mark then Some ([], bs) else onto b (cut mark bs)

abbrev pub stretch_or : Option ℕ → Option ℕ → Option Stretch
stretch_or (Some thread) (Some count) = if nat_le thread last_thread && nat_lt 0 count then Some (record { thread = thread; count = count }) else None
stretch_or _ _ = None

abbrev pub numbers_in : Option (Text × Text) → Option Stretch
numbers_in None = None
numbers_in (Some p) = stretch_or (number_of p.0) (number_of p.1)

-- the stretch that a line without its line feed writes
abbrev pub stretch_of : Text → Option Stretch
stretch_of line = numbers_in (cut 32 line)

abbrev pub is_thread : ℕ → Option ℕ → Bool
is_thread t None = false
is_thread t (Some u) = nat_eq u t

-- whether the last turn is the thread's
abbrev pub last_is : List ℕ → ℕ → Bool
last_is ts t = is_thread t (slice_get ts (length ts - 1))

-- the turns so far with those of a stretch, or the fault of its line
abbrev pub with_stretch : List ℕ → ℕ → Option Stretch → Result (List ℕ) BookFault
with_stretch ts line None = Err (BadLine line)
with_stretch ts line (Some s) = if last_is ts s.thread then Err (SameThread line) else (if nat_lt most_turns (length ts + s.count) then Err (TooMany line) else Ok (ts ++ replicate s.count s.thread))

abbrev pub at_end : List ℕ → Text → ℕ → Result (List ℕ) BookFault
at_end ts [] line = Ok ts
at_end ts (b ∷ bs) line = Err (BadLine line)

-- The turns so far with those of the lines of a text. What was read of the line that has begun stands before
-- the text.
abbrev pub turns_from : List ℕ → Text → Text → ℕ → Result (List ℕ) BookFault
turns_from ts begun [] line = at_end ts begun line
turns_from ts begun (b ∷ bs) line = if nat_eq b 10 then (with_stretch ts line (stretch_of begun) >>= λ more. turns_from more [] bs (line + 1)) else turns_from ts (begun ++ b ∷ []) bs line

-- the turns of a book, or its fault
abbrev pub turns_of : Text → Result (List ℕ) BookFault
turns_of text = if bytes_eq (take 11 text) head then turns_from [] [] (drop 11 text) 2 else Err BadHead

-- what a function gave is what reading gives, unless memory ran out
abbrev pub Fails : BookFault → Result (List ℕ) BookFault → Type 0
Fails NoMemory read = Unit {0}
Fails BadHead read = read ≡ Err BadHead
Fails (BadLine line) read = read ≡ Err (BadLine line)
Fails (SameThread line) read = read ≡ Err (SameThread line)
Fails (TooMany line) read = read ≡ Err (TooMany line)

abbrev pub Gives : {X : Type 0} → (X → List ℕ) → Result X BookFault → Result (List ℕ) BookFault → Type 0
Gives view (Ok x) read = read ≡ Ok (view x)
Gives view (Err e) read = Fails e read

-- the same of what goes onto turns in their place
abbrev pub GivesOnto : Result (Unit {0}) BookFault → List ℕ → Result (List ℕ) BookFault → Type 0
GivesOnto (Ok _) new read = read ≡ Ok new
GivesOnto (Err e) new read = Fails e read

-- the stretch with a count that fits 64 bits
abbrev pub saturated : Stretch → Stretch
saturated s = record { thread = s.thread; count = min s.count (2 ^ 64 - 1) }

-- ---- worked examples
last_line_open : turns_of (head ++ codes "0 3") ≡ Err (BadLine 2)
last_line_open = refl

one_thread_twice : turns_of (head ++ codes "0 3" ++ 10 ∷ codes "0 1" ++ 10 ∷ []) ≡ Err (SameThread 3)
one_thread_twice = refl

empty_text : turns_of [] ≡ Err BadHead
empty_text = refl

leading_zero : turns_of (head ++ codes "0 03" ++ 10 ∷ []) ≡ Err (BadLine 2)
leading_zero = refl

too_many : turns_of (head ++ codes "0 1" ++ 10 ∷ codes "1 99999999999999999999999" ++ 10 ∷ []) ≡ Err (TooMany 3)
too_many = refl

two_threads : turns_of (head ++ codes "0 2" ++ 10 ∷ codes "4095 1" ++ 10 ∷ []) ≡ Ok (0 ∷ 0 ∷ 4095 ∷ [])
two_threads = refl

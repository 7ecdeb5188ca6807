-- What a shelf of files and a sink of bytes do, where they tell it, and when they may fail.
use Rattle.std.specs.Prelude.{◌≡◌, ◌≢◌, ℕ, ◌+◌, ◌-◌, ◌^◌, ◌<◌, ◌≤◌, List, [], ◌++◌, length, take, drop, Option, Some, None, Result, Ok, Err, min}
use Rattle.lam_io.specs.declared.Got.{Got}
use Rattle.lam_io.specs.declared.Got.TheVariants.{Found, Absent, TooLong}
use Rattle.lam_io.specs.declared.ShelfFault.{ShelfFault}
use Rattle.lam_io.specs.declared.ShelfFault.TheVariants.{Failed, NoMemory}
use Rattle.lam_io.specs.declared.SinkFault.{SinkFault}

-- the bytes of each file, by its name
abbrev pub Files : Type 0
Files = List ℕ → Option (List ℕ)

-- one more, up to the greatest count
abbrev pub one_more : ℕ → ℕ
one_more count = min (count + 1) (2 ^ 64 - 1)

-- a count of faults went up, or stands at its limit
abbrev pub Rose : ℕ → ℕ → Type 0
Rose before now = one_more before ≤ now

-- no file changed
abbrev pub AllStay : Files → Files → Type 0
AllStay old new = (name : List ℕ) → new name ≡ old name

-- no file but one changed
abbrev pub OthersStay : Files → Files → List ℕ → Type 0
OthersStay old new name = (other : List ℕ) → other ≢ name → new other ≡ old other

-- how many writes a shelf has refused for want of memory, after one that it answered so
abbrev pub refusals_after : Result (Unit {0}) ShelfFault → ℕ → ℕ
refusals_after (Ok done) count = count
refusals_after (Err Failed) count = count
refusals_after (Err NoMemory) count = one_more count

-- what reading a file of at most so many bytes answers
abbrev pub IsRead : Option (List ℕ) → ℕ → Got → Type 0
IsRead file limit (Found bytes) = (file ≡ Some bytes.items) × (length bytes.items ≤ limit)
IsRead file limit Absent = file ≡ None
IsRead file limit TooLong = (bytes : List ℕ) × (file ≡ Some bytes) × (limit < length bytes)

-- what was taken grew by a piece, where it is told
abbrev pub Took : Option (List ℕ) → Option (List ℕ) → List ℕ → Type 0
Took None new piece = Unit {0}
Took (Some old) new piece = new ≡ Some (old ++ piece)

-- a count of taken bytes: none of an empty piece, else at least one
pub record IsCount (count len : ℕ) : Type 0 where
  pub most : count ≤ len
  pub some : 0 < len → 0 < count

-- a front of the text was taken, and not all of it
abbrev pub TookFront : Option (List ℕ) → Option (List ℕ) → List ℕ → Type 0
TookFront old new text = (n : ℕ) × (n < length text) × Took old new (take n text)

-- How a text is written, call by call, where `gives` says what a call may do: from a state and a piece, the answer and
-- the state after it. Each call has all that is left, the first refusal ends it, and for an empty rest there is no call.
pub data Writes {S : Type 0} (gives : S → List ℕ → Result ℕ SinkFault → S → Type 0) : S → List ℕ → Result (Unit {0}) SinkFault → S → Type 0 where
  nothing_left : {out : S} → Writes gives out [] (Ok tt) out
  fails : {out after : S} {rest : List ℕ} {fault : SinkFault} → 0 < length rest → gives out rest (Err fault) after → Writes gives out rest (Err fault) after
  takes : {out between after : S} {rest : List ℕ} {count : ℕ} {answer : Result (Unit {0}) SinkFault} → 0 < length rest → gives out rest (Ok count) between → Writes gives between (drop count rest) answer after → Writes gives out rest answer after

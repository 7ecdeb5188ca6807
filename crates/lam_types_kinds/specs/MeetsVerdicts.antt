-- How the answer of a function in code meets a verdict.
use Rattle.std.specs.Prelude.{◌≡◌, Option, Some, None, Result, Ok, Err}
use Rattle.lam_types_kinds.specs.Verdicts.{Verdict, Fine, Stop}

-- no break; only memory may have run out
abbrev pub HasNoBreakBy : {A Fault : Type 0} → Fault → Result A Fault → Type 0
HasNoBreakBy no_memory (Ok a) = Unit {0}
HasNoBreakBy no_memory (Err f) = f ≡ no_memory

-- the break that a fault names, and the fault that says that memory ran out
module _ {Fault Kind : Type 0} (IsFault : Fault → Kind → Type 0) (no_memory : Fault) where
  -- the fault names the first break; where there is none, memory ran out
  abbrev pub BreaksBy : {A : Type 0} → Fault → Verdict Kind A → Type 0
  BreaksBy f (Fine a) = f ≡ no_memory
  BreaksBy f (Stop b) = IsFault f b

  -- a check that gives nothing
  abbrev pub PassesBy : Result (Unit {0}) Fault → Verdict Kind (Unit {0}) → Type 0
  PassesBy (Ok u) v = v ≡ Fine tt
  PassesBy (Err f) v = BreaksBy f v

  -- a step on a state, which shows the new one
  abbrev pub LeavesBy : {A : Type 0} → Result (Unit {0}) Fault → A → Verdict Kind A → Type 0
  LeavesBy (Ok u) new v = v ≡ Fine new
  LeavesBy (Err f) new v = BreaksBy f v

  -- a value that is made, as `see` shows it
  abbrev pub MakesBy : {X A : Type 0} → (X → A) → Result X Fault → Verdict Kind A → Type 0
  MakesBy see (Ok x) v = v ≡ Fine (see x)
  MakesBy see (Err f) v = BreaksBy f v

  -- the refusal is the first break; where there is none, only memory may have run out
  abbrev pub IsFirstBy : Fault → Option Kind → Type 0
  IsFirstBy f (Some b) = IsFault f b
  IsFirstBy f None = f ≡ no_memory

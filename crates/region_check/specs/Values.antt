-- What the definitions see of the code's values.
use Rattle.std.specs.Prelude.{◌≡◌, List, map, Option, Result, take, length}
use Rattle.std.specs.Borrow.{Bor}
use Rattle.lam_operators.specs.Words.{Word}
use Rattle.lam_types_kinds.specs.MeetsVerdicts.{BreaksBy, PassesBy, LeavesBy, MakesBy, IsFirstBy, HasNoBreakBy}
use Rattle.region_check.specs.Breaks.{Break, outer_read, outer_write, return_in_region, capture_twice, Verdict}
use Rattle.region_check.specs.declared.RegionFault.{RegionFault}
use Rattle.region_check.specs.declared.RegionFault.TheVariants.{OuterRead, OuterWrite, ReturnInRegion, CaptureTwice, NoMemory}

abbrev pub texts : List (Bor Word) → List Word
texts ks = map (λ k. k.now) ks

-- the fault names the break, unless memory ran out
abbrev pub IsFault : RegionFault → Break → Type 0
IsFault (OuterRead at) b = b ≡ outer_read at
IsFault (OuterWrite at) b = b ≡ outer_write at
IsFault (ReturnInRegion at) b = b ≡ return_in_region at
IsFault (CaptureTwice at) b = b ≡ capture_twice at
IsFault NoMemory b = Unit {0}

abbrev pub Breaks : {A : Type 0} → RegionFault → Verdict A → Type 0
Breaks f v = BreaksBy IsFault NoMemory f v

abbrev pub Passes : Result (Unit {0}) RegionFault → Verdict (Unit {0}) → Type 0
Passes r v = PassesBy IsFault NoMemory r v

-- what a checked statement leaves
abbrev pub Leaves : Result (Unit {0}) RegionFault → List Word → Verdict (List Word) → Type 0
Leaves r own v = LeavesBy IsFault NoMemory r own v

abbrev pub Makes : {X A : Type 0} → (X → A) → Result X RegionFault → Verdict A → Type 0
Makes see r v = MakesBy IsFault NoMemory see r v

abbrev pub Extends : {A : Type 0} → List A → List A → Type 0
Extends old new = take (length old) new ≡ old

-- the refusal is the first break; where there is none, only memory may have run out
abbrev pub IsFirst : RegionFault → Option Break → Type 0
IsFirst f o = IsFirstBy IsFault NoMemory f o

-- no break; only memory may have run out
abbrev pub HasNoBreak : {A : Type 0} → Result A RegionFault → Type 0
HasNoBreak r = HasNoBreakBy NoMemory r

-- What is proved of the rounds, for every code and every unit.
use Rattle.std.specs.Prelude.{◌≡◌, ◌↔◌, ℕ, List, Option, Some, None, length, slice_get}
use Rattle.thread_steps.specs.Codes.{CodeTree}
use Rattle.thread_steps.specs.CodeUnit.{CodeUnit}
use Rattle.guarded_code.specs.Rounds.{Table, Holds, Broke, OnFound, round, after, Above}
use Rattle.guarded_code.specs.Descriptions.{Description, meet, starts}
use Rattle.guarded_code.specs.Changes.{passes, descriptions}
use Rattle.guarded_code.specs.Breaks.{first_bad_target, IsGuarded}
use Rattle.guarded_code.specs.Says.{Says, Describes, AllTaken, AllGuarded}

-- what stands after the last round meets the rules on descriptions
abbrev pub MeetsRules : Type 0
MeetsRules = (code : CodeTree) (u : CodeUnit) → OnFound (Unit {0}) (descriptions code u) (λ t. Describes code u t)

-- where any table meets them, no round breaks, and what stands then says at least as much as that table
abbrev pub SaysMost : Type 0
SaysMost = (code : CodeTree) (u : CodeUnit) (s : Table Description) → Describes code u s → OnFound ⊥ (descriptions code u) (λ t. Above Description Says t s)

-- one more round changes nothing
abbrev pub IsLast : Type 0
IsLast = (code : CodeTree) (u : CodeUnit) (t : Table Description) → descriptions code u ≡ Holds t → round Description meet (passes code u.ops) t ≡ Holds t

-- so the rounds end where one changes nothing, however many there were, and where one breaks
abbrev pub EndsThere : Type 0
EndsThere = (code : CodeTree) (u : CodeUnit) (n : ℕ) (t : Table Description)
    → after Description meet (passes code u.ops) n (length u.ops) (starts u) ≡ Holds t → round Description meet (passes code u.ops) t ≡ Holds t → descriptions code u ≡ Holds t

abbrev pub BreaksThere : Type 0
BreaksThere = (code : CodeTree) (u : CodeUnit) (n a : ℕ) → after Description meet (passes code u.ops) n (length u.ops) (starts u) ≡ Broke a → descriptions code u ≡ Broke a

-- a unit breaks no rule: its targets are good, its rounds hold, and what stands then takes all kinds and guards all accesses
pub record IsUnitGuarded (code : CodeTree) (u : CodeUnit) : Type 0 where
  pub targets : first_bad_target code u ≡ None
  pub table : Table Description
  pub found : descriptions code u ≡ Holds table
  pub taken : AllTaken code u.ops table
  pub guarded : AllGuarded u.ops table

-- a code is guarded exactly where each of its units is
abbrev pub GuardedMeans : Type 0
GuardedMeans = (code : CodeTree) → IsGuarded code ↔ ((n : ℕ) (u : CodeUnit) → slice_get code.units n ≡ Some u → IsUnitGuarded code u)

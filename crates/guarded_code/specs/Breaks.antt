-- The rules of guarded code, and the first break of one.
use Rattle.std.specs.Prelude.{◌≡◌, ℕ, ◌+◌, nat_lt, Bool, true, false, not, ◌&&◌, ◌||◌, is_some, if◌then◌else◌, List, [], ◌∷◌, map, length, slice_get, Option, Some, None}
use Rattle.std.specs.List.{list_all}
use Rattle.thread_steps.specs.Codes.{CodeTree}
use Rattle.thread_steps.specs.CodeUnit.{CodeUnit}
use Rattle.thread_steps.specs.Op.{Op}
use Rattle.thread_steps.specs.Op.TheVariants.{Const, Load, Store, Eq, Ne, Call, GetField, PutField, GetElement, PutElement, NewObject, EnterRegion, Spawn, ReadBarrier, WriteBarrier}
use Rattle.thread_steps.specs.Ops.{function_takes, region_in}
use Rattle.guarded_code.specs.Rounds.{Table, Found, Holds, Broke}
use Rattle.guarded_code.specs.Descriptions.{ValueKind, Number, Truth, Other, Unknown, Access, Reading, Writing, Operand, Description, is_tested, starts}
use Rattle.guarded_code.specs.Changes.{Place, Any, Only, change, wanted, goes, descriptions}

-- the rules, in the order in which a unit's breaks are looked for
pub data Rule : Type 0 where
  -- each address that may come next is one of the unit, and each number names what its operation takes
  BadTarget : Rule
  -- an operation finds its operands, and paths that meet bring as many
  Depth : Rule
  -- no operand is of a known kind that its operation does not take
  Kind : Rule
  -- an access stands behind a barrier that tests its reference for it
  Unguarded : Rule

-- a broken rule with its address, in a unit
pub record BrokenAt : Type 0 where
  pub rule : Rule
  pub at : ℕ

-- and in a code
pub record CodeBreak : Type 0 where
  pub rule : Rule
  pub unit : ℕ
  pub at : ℕ

-- ---- BadTarget

-- the number of an operation names a constant, a local, a class or a unit of the sort that it takes
abbrev pub names_something : CodeTree → ℕ → Op → Bool
names_something code locals (Const k) = nat_lt k (length code.constants)
names_something code locals (Load n) = nat_lt n locals
names_something code locals (Store n) = nat_lt n locals
names_something code locals (Call u) = is_some (function_takes (slice_get code.units u))
names_something code locals (NewObject c) = nat_lt c (length code.classes)
names_something code locals (EnterRegion r) = is_some (region_in r code.units)
names_something code locals (Spawn u) = is_some (function_takes (slice_get code.units u))
names_something code locals op = true

abbrev pub all_within : ℕ → List ℕ → Bool
all_within size bs = list_all (λ b. nat_lt b size) bs

abbrev pub is_well_targeted : CodeTree → CodeUnit → ℕ → Op → Bool
is_well_targeted code u a op = names_something code u.locals op && all_within (length u.ops) (goes a op)

-- the first address from a on whose operation fails a test
abbrev pub first_failing_op : (ℕ → Op → Bool) → ℕ → List Op → Option ℕ
first_failing_op test a [] = None
first_failing_op test a (op ∷ ops) = if test a op then first_failing_op test (a + 1) ops else Some a

-- where the unit begins
abbrev pub start_places : CodeUnit → List ℕ
start_places u = map (λ (p : ℕ × Description). p.0) (starts u)

-- an entry or a catch place outside counts at address 0
abbrev pub first_bad_target : CodeTree → CodeUnit → Option ℕ
first_bad_target code u = if all_within (length u.ops) (start_places u) then first_failing_op (is_well_targeted code u) 0 u.ops else Some 0

-- ---- Kind

-- two kinds do not differ as far as both are known
abbrev pub may_agree : ValueKind → ValueKind → Bool
may_agree Unknown k = true
may_agree k Unknown = true
may_agree Number Number = true
may_agree Truth Truth = true
may_agree Other Other = true
may_agree _ _ = false

abbrev pub fits : Place → ValueKind → Bool
fits Any k = true
fits (Only want) k = may_agree want k

abbrev pub all_fit : List Place → List Operand → Bool
all_fit [] os = true
all_fit (p ∷ ps) [] = true
all_fit (p ∷ ps) (o ∷ os) = fits p o.known.kind && all_fit ps os

-- only values of one kind are compared
abbrev pub two_agree : List Operand → Bool
two_agree (o ∷ p ∷ os) = may_agree o.known.kind p.known.kind
two_agree os = true

abbrev pub compares : Op → List Operand → Bool
compares Eq os = two_agree os
compares Ne os = two_agree os
compares op os = true

abbrev pub takes_kinds : CodeTree → Op → Description → Bool
takes_kinds code op d = all_fit (wanted (change code op)) d.stack && compares op d.stack

-- ---- Unguarded

abbrev pub is_tested_at : Access → Option Operand → Bool
is_tested_at access None = false
is_tested_at access (Some o) = is_tested access o.known

-- an access finds its reference tested by its rule
abbrev pub is_guarded : Op → Description → Bool
is_guarded (GetField f) d = is_tested_at Reading (slice_get d.stack 0)
is_guarded (PutField f) d = is_tested_at Writing (slice_get d.stack 1)
is_guarded GetElement d = is_tested_at Reading (slice_get d.stack 1)
is_guarded PutElement d = is_tested_at Writing (slice_get d.stack 2)
is_guarded op d = true

-- a redundant barrier: its operand was tested by its rule already
abbrev pub tests_again : Op → Description → Bool
tests_again (ReadBarrier depth) d = is_tested_at Reading (slice_get d.stack depth)
tests_again (WriteBarrier depth) d = is_tested_at Writing (slice_get d.stack depth)
tests_again op d = false

-- ---- the first break

abbrev pub passes_where : (Op → Description → Bool) → Op → Option Description → Bool
passes_where test op None = true
passes_where test op (Some d) = test op d

-- the first address from a on whose description fails a test; one without a description fails none
abbrev pub first_failing : (Op → Description → Bool) → ℕ → List Op → Table Description → Option ℕ
first_failing test a [] t = None
first_failing test a (op ∷ ops) [] = None
first_failing test a (op ∷ ops) (o ∷ t) = if passes_where test op o then first_failing test (a + 1) ops t else Some a

abbrev pub broken : Rule → Option ℕ → Option BrokenAt → Option BrokenAt
broken rule None later = later
broken rule (Some a) later = Some (record { rule = rule; at = a })

abbrev pub break_found : CodeTree → CodeUnit → Found Description → Option BrokenAt
break_found code u (Broke a) = Some (record { rule = Depth; at = a })
break_found code u (Holds t) = broken Kind (first_failing (takes_kinds code) 0 u.ops t) (broken Unguarded (first_failing is_guarded 0 u.ops t) None)

-- the first broken rule of a unit, at its least address
abbrev pub unit_break : CodeTree → CodeUnit → Option BrokenAt
unit_break code u = broken BadTarget (first_bad_target code u) (break_found code u (descriptions code u))

abbrev pub break_in : ℕ → Option BrokenAt → Option CodeBreak → Option CodeBreak
break_in n None later = later
break_in n (Some b) later = Some (record { rule = b.rule; unit = n; at = b.at })

abbrev pub first_break_from : CodeTree → ℕ → List CodeUnit → Option CodeBreak
first_break_from code n [] = None
first_break_from code n (u ∷ us) = break_in n (unit_break code u) (first_break_from code (n + 1) us)

-- the break of the least unit that has one
unfoldable pub first_code_break : CodeTree → Option CodeBreak
first_code_break code = first_break_from code 0 code.units

-- no rule is broken
abbrev pub IsGuarded : CodeTree → Type 0
IsGuarded code = first_code_break code ≡ None

-- Codes by hand, and the first break of each.
use Rattle.std.specs.Prelude.{◌≡◌, ℕ, pos, true, false, codes, List, [], ◌∷◌, Option, Some, None, refl}
use Rattle.thread_steps.specs.Value.TheVariants.{Int, Bool as TruthValue}
use Rattle.thread_steps.specs.Codes.{CodeTree}
use Rattle.thread_steps.specs.ArgKind.TheVariants.{Other as OtherArgument}
use Rattle.thread_steps.specs.CodeUnit.{CodeUnit}
use Rattle.thread_steps.specs.UnitKind.TheVariants.{Function, Region}
use Rattle.thread_steps.specs.Op.{Op}
use Rattle.thread_steps.specs.Op.TheVariants.{Const, Load, Store, Pop, Add, Jump, JumpIfFalse, Call, Return, ReadBarrier, WriteBarrier, GetField, PutField, NewObject, LeaveRegion}
use Rattle.guarded_code.specs.Breaks.{Rule, BadTarget, Depth, Kind, Unguarded, CodeBreak, first_code_break}

-- a function of one parameter with two locals
abbrev function : List Op → CodeUnit
function ops = record { kind = Function (codes "f") (OtherArgument ∷ []) false; locals = 2; ops = ops }

-- a region with one capture and two locals
abbrev region : ℕ → List Op → CodeUnit
region catch_at ops = record { kind = Region 0 1 catch_at; locals = 2; ops = ops }

-- with the constants `true` and 1, and one class
abbrev code : List CodeUnit → CodeTree
code us = record { units = us; constants = TruthValue true ∷ Int (pos 1) ∷ []; classes = [] ∷ [] }

abbrev one : List Op → CodeTree
one ops = code (function ops ∷ [])

abbrev breaks : Rule → ℕ → ℕ → Option CodeBreak
breaks rule unit at = Some (record { rule = rule; unit = unit; at = at })

-- ---- each rule

unguarded : first_code_break (one (Load 0 ∷ GetField 0 ∷ Return ∷ [])) ≡ breaks Unguarded 0 1
unfolding first_code_break
unguarded = refl

guarded : first_code_break (one (Load 0 ∷ ReadBarrier 0 ∷ GetField 0 ∷ Return ∷ [])) ≡ None
unfolding first_code_break
guarded = refl

bad_target : first_code_break (one (Jump 9 ∷ [])) ≡ breaks BadTarget 0 0
unfolding first_code_break
bad_target = refl

too_few : first_code_break (one (Add ∷ Return ∷ [])) ≡ breaks Depth 0 0
unfolding first_code_break
too_few = refl

wrong_kind : first_code_break (one (Const 0 ∷ Const 1 ∷ Add ∷ Return ∷ [])) ≡ breaks Kind 0 2
unfolding first_code_break
wrong_kind = refl

-- ---- targets: a number that names nothing, an end without an operation, whether it is reached or not, no operation at all

no_constant : first_code_break (one (Const 2 ∷ Return ∷ [])) ≡ breaks BadTarget 0 0
unfolding first_code_break
no_constant = refl

no_end : first_code_break (one (Load 0 ∷ Return ∷ Pop ∷ [])) ≡ breaks BadTarget 0 2
unfolding first_code_break
no_end = refl

no_operation : first_code_break (one []) ≡ breaks BadTarget 0 0
unfolding first_code_break
no_operation = refl

catch_outside : first_code_break (code (region 9 (LeaveRegion ∷ []) ∷ [])) ≡ breaks BadTarget 0 0
unfolding first_code_break
catch_outside = refl

-- a region is no function
region_called : first_code_break (code (function (Call 1 ∷ Return ∷ []) ∷ region 1 (LeaveRegion ∷ Pop ∷ LeaveRegion ∷ []) ∷ [])) ≡ breaks BadTarget 0 0
unfolding first_code_break
region_called = refl

-- ---- copies: a barrier on one copy tests the local and its other copies; a store ends that, and the fact stays with the value

tested_with_its_local : first_code_break (one (Load 0 ∷ Load 0 ∷ ReadBarrier 0 ∷ Pop ∷ GetField 0 ∷ Pop ∷ Load 0 ∷ GetField 0 ∷ Return ∷ [])) ≡ None
unfolding first_code_break
tested_with_its_local = refl

other_rule : first_code_break (one (Load 0 ∷ WriteBarrier 0 ∷ GetField 0 ∷ Return ∷ [])) ≡ breaks Unguarded 0 2
unfolding first_code_break
other_rule = refl

stored_anew : first_code_break (one (Load 0 ∷ ReadBarrier 0 ∷ Pop ∷ NewObject 0 ∷ Store 0 ∷ Load 0 ∷ GetField 0 ∷ Return ∷ [])) ≡ breaks Unguarded 0 6
unfolding first_code_break
stored_anew = refl

-- the operand is of the old value: its barrier says nothing of the local's new one
no_copy_any_more : first_code_break (one (Load 0 ∷ NewObject 0 ∷ Store 0 ∷ ReadBarrier 0 ∷ Pop ∷ Load 0 ∷ GetField 0 ∷ Return ∷ [])) ≡ breaks Unguarded 0 6
unfolding first_code_break
no_copy_any_more = refl

-- ---- meetings: a fact of one path alone is lost, and so is a kind

one_path_tests : first_code_break (one (Const 0 ∷ JumpIfFalse 5 ∷ Load 0 ∷ ReadBarrier 0 ∷ Pop ∷ Load 0 ∷ GetField 0 ∷ Return ∷ [])) ≡ breaks Unguarded 0 6
unfolding first_code_break
one_path_tests = refl

depths_differ : first_code_break (one (Const 0 ∷ JumpIfFalse 3 ∷ Load 0 ∷ Load 0 ∷ Return ∷ [])) ≡ breaks Depth 0 3
unfolding first_code_break
depths_differ = refl

kinds_differ : first_code_break (one (Const 0 ∷ JumpIfFalse 4 ∷ Const 1 ∷ Jump 5 ∷ Const 0 ∷ Const 1 ∷ Add ∷ Return ∷ [])) ≡ None
unfolding first_code_break
kinds_differ = refl

-- a loop whose second round brings another value to its head
second_round : first_code_break (one (Load 0 ∷ ReadBarrier 0 ∷ Pop ∷ Load 0 ∷ GetField 0 ∷ Store 0 ∷ Jump 3 ∷ [])) ≡ breaks Unguarded 0 4
unfolding first_code_break
second_round = refl

-- ---- entries and catch places

-- a parameter may be of every kind, a local begins as null
null_local : first_code_break (one (Load 1 ∷ Const 1 ∷ Add ∷ Return ∷ [])) ≡ breaks Kind 0 2
unfolding first_code_break
null_local = refl

caught : first_code_break (code (region 1 (LeaveRegion ∷ Store 1 ∷ Load 0 ∷ GetField 0 ∷ Pop ∷ LeaveRegion ∷ []) ∷ [])) ≡ breaks Unguarded 0 3
unfolding first_code_break
caught = refl

-- where both are one address their depths differ
caught_at_the_entry : first_code_break (code (region 0 (LeaveRegion ∷ []) ∷ [])) ≡ breaks Depth 0 0
unfolding first_code_break
caught_at_the_entry = refl

-- ---- the order: the least unit, then the rule, then the address

least_unit : first_code_break (code (function (Load 0 ∷ Return ∷ []) ∷ function (Call 0 ∷ Return ∷ []) ∷ function (Load 0 ∷ Load 0 ∷ PutField 0 ∷ Load 0 ∷ Return ∷ []) ∷ [])) ≡ breaks Depth 1 0
unfolding first_code_break
least_unit = refl

in_unit_two : first_code_break (code (function (Load 0 ∷ Return ∷ []) ∷ function (Load 0 ∷ Call 0 ∷ Return ∷ []) ∷ function (Load 0 ∷ Load 0 ∷ PutField 0 ∷ Load 0 ∷ Return ∷ []) ∷ [])) ≡ breaks Unguarded 2 2
unfolding first_code_break
in_unit_two = refl

two_breaks : first_code_break (one (Load 0 ∷ GetField 0 ∷ Const 0 ∷ Add ∷ Return ∷ [])) ≡ breaks Kind 0 3
unfolding first_code_break
two_breaks = refl

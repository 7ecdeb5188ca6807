-- Codes by hand, and what is left out of each.
use Rattle.std.specs.Prelude.{◌≡◌, ℕ, pos, true, false, codes, List, [], ◌∷◌, refl}
use Rattle.lam_value.specs.declared.values.Value.TheVariants.{Int, Bool as TruthValue, Nothing}
use Rattle.lam_value.specs.declared.shapes.Kind.TheVariants.{Int as IntKind}
use Rattle.lam_bytecode.specs.Codes.{CodeTree}
use Rattle.lam_bytecode.specs.declared.unit.ArgKind.TheVariants.{Other as OtherArgument}
use Rattle.lam_bytecode.specs.declared.unit.CodeUnit.{CodeUnit}
use Rattle.lam_bytecode.specs.declared.unit.UnitKind.TheVariants.{Function, Region}
use Rattle.lam_bytecode.specs.declared.op.Op.{Op}
use Rattle.lam_bytecode.specs.declared.op.Op.TheVariants.{Const, Load, Store, Pop, Add, Jump, JumpIfFalse, Return, ReadBarrier, WriteBarrier, GetField, PutField, NewObject, LeaveRegion}
use Rattle.guarded_code.specs.Breaks.{first_code_break}
use Rattle.thinned_code.specs.Thinned.{thinned}

-- ---- `class C { v: int; } fn main(): int { let c: C = new C(); return c.v + c.v; }`
-- the second barrier tests the same object again

abbrev main_of : ℕ → List Op → CodeTree
main_of locals ops =
    record { units = record { kind = Function (codes "main") [] true; locals = locals; ops = ops } ∷ []; constants = Nothing ∷ []; classes = (IntKind ∷ []) ∷ [] }

abbrev adds_twice : CodeTree
adds_twice =
    main_of 1 (NewObject 0 ∷ Store 0 ∷ Load 0 ∷ ReadBarrier 0 ∷ GetField 0 ∷ Load 0 ∷ ReadBarrier 0 ∷ GetField 0 ∷ Add ∷ Return ∷ Const 0 ∷ Return ∷ [])

abbrev tests_once : CodeTree
tests_once =
    main_of 1 (NewObject 0 ∷ Store 0 ∷ Load 0 ∷ ReadBarrier 0 ∷ GetField 0 ∷ Load 0 ∷ GetField 0 ∷ Add ∷ Return ∷ Const 0 ∷ Return ∷ [])

second_left_out : thinned adds_twice ≡ tests_once
unfolding thinned first_code_break
second_left_out = refl

-- ---- `class C { v: int; } fn main(): int { let c: C = new C(); let v: int = c.v; c = new C(); return v + c.v; }`
-- the second barrier is the only one of the second object

abbrev two_objects : CodeTree
two_objects =
    main_of 2 (NewObject 0 ∷ Store 0 ∷ Load 0 ∷ ReadBarrier 0 ∷ GetField 0 ∷ Store 1 ∷ NewObject 0 ∷ Store 0 ∷ Load 1 ∷ Load 0 ∷ ReadBarrier 0 ∷ GetField 0 ∷ Add ∷ Return ∷ Const 0 ∷ Return ∷ [])

nothing_left_out : thinned two_objects ≡ two_objects
unfolding thinned first_code_break
nothing_left_out = refl

-- ---- functions of one parameter with two locals, and regions with one capture and two locals

abbrev code : List CodeUnit → CodeTree
code us = record { units = us; constants = TruthValue true ∷ Int (pos 1) ∷ []; classes = [] ∷ [] }

abbrev one : List Op → CodeTree
one ops = code (record { kind = Function (codes "f") (OtherArgument ∷ []) false; locals = 2; ops = ops } ∷ [])

abbrev region : ℕ → List Op → CodeTree
region catch_at ops = code (record { kind = Region 0 1 catch_at; locals = 2; ops = ops } ∷ [])

-- reading is not writing
other_rule_stays : thinned (one (Load 0 ∷ ReadBarrier 0 ∷ WriteBarrier 0 ∷ ReadBarrier 0 ∷ Return ∷ [])) ≡ one (Load 0 ∷ ReadBarrier 0 ∷ WriteBarrier 0 ∷ Return ∷ [])
unfolding thinned first_code_break
other_rule_stays = refl

-- all are left out at once, and a jump to one goes to the operation after it
jump_to_the_next : thinned (one (Load 0 ∷ ReadBarrier 0 ∷ Const 0 ∷ JumpIfFalse 5 ∷ ReadBarrier 0 ∷ ReadBarrier 0 ∷ GetField 0 ∷ Return ∷ [])) ≡ one (Load 0 ∷ ReadBarrier 0 ∷ Const 0 ∷ JumpIfFalse 4 ∷ GetField 0 ∷ Return ∷ [])
unfolding thinned first_code_break
jump_to_the_next = refl

-- a fact of one path alone is none
one_path_stays : thinned (one (Load 0 ∷ Const 0 ∷ JumpIfFalse 4 ∷ ReadBarrier 0 ∷ ReadBarrier 0 ∷ GetField 0 ∷ Return ∷ [])) ≡ one (Load 0 ∷ Const 0 ∷ JumpIfFalse 4 ∷ ReadBarrier 0 ∷ ReadBarrier 0 ∷ GetField 0 ∷ Return ∷ [])
unfolding thinned first_code_break
one_path_stays = refl

-- an address that no path reaches has no description
unreached_stays : thinned (one (Load 0 ∷ ReadBarrier 0 ∷ Jump 4 ∷ ReadBarrier 0 ∷ Return ∷ [])) ≡ one (Load 0 ∷ ReadBarrier 0 ∷ Jump 4 ∷ ReadBarrier 0 ∷ Return ∷ [])
unfolding thinned first_code_break
unreached_stays = refl

-- a catch place moves with its operation
catch_place_moves : thinned (region 6 (Load 0 ∷ ReadBarrier 0 ∷ ReadBarrier 0 ∷ GetField 0 ∷ Pop ∷ LeaveRegion ∷ Store 1 ∷ LeaveRegion ∷ [])) ≡ region 5 (Load 0 ∷ ReadBarrier 0 ∷ GetField 0 ∷ Pop ∷ LeaveRegion ∷ Store 1 ∷ LeaveRegion ∷ [])
unfolding thinned first_code_break
catch_place_moves = refl

-- a code with a break stays as it is
broken_stays : thinned (one (Load 0 ∷ ReadBarrier 0 ∷ ReadBarrier 0 ∷ PutField 0 ∷ Return ∷ [])) ≡ one (Load 0 ∷ ReadBarrier 0 ∷ ReadBarrier 0 ∷ PutField 0 ∷ Return ∷ [])
unfolding thinned first_code_break
broken_stays = refl

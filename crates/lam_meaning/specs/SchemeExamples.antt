-- Worked examples: the code of small programs.
use Rattle.std.specs.Prelude.{◌≡◌, ℕ, pos, true, false, List, [], ◌∷◌, map, Some, codes, refl}
use Rattle.thread_steps.specs.Value.TheVariants.{Int as an_int, Nothing}
use Rattle.lam_operators.specs.declared.BinaryOp.TheVariants as binary
use Rattle.lam_builtins.specs.Types.{int, bool, object}
use Rattle.thread_steps.specs.Op.{Op}
use Rattle.thread_steps.specs.Op.TheVariants.{Const, Load, Store, Add, Jump, JumpIfFalse, Call, Return, ReadBarrier, GetField, NewObject, MakeLabel, NoCaps, EnterRegion, LeaveRegion}
use Rattle.thread_steps.specs.UnitKind.{UnitKind}
use Rattle.thread_steps.specs.UnitKind.TheVariants.{Function, Region}
use Rattle.thread_steps.specs.ArgKind.TheVariants as arg
use Rattle.lam_resolve_tree.specs.Tree.{ResolvedType, Expression, number_value, bool_value, local_value, binary_of, field_of, call_of, new_object, label_of, caps_of, args_end, args_more, let_slot, if_block, while_block, return_value, region_block, set_local, Block, block_end, block_more, other_block, ResolvedFunction, ResolvedTree}
use Rattle.lam_meaning.specs.Scheme.{scheme}

abbrev returns : Expression → Block
returns e = block_more (return_value (Some e)) block_end

abbrev number : ℕ → Expression
number n = number_value (pos n)

abbrev function_of : List ResolvedType → List ResolvedType → Block → ResolvedFunction
function_of params slots body = record { name = codes "f"; params = params; result = Some int; slots = slots; body = body }

abbrev program_of : List ResolvedFunction → ResolvedTree
program_of fs = record { classes = (int ∷ []) ∷ []; functions = fs }

-- the operations of each unit, the constants, and what each unit is
abbrev ops_of : ResolvedTree → List (List Op)
ops_of r = map (λ u. u.ops) (scheme r).units

abbrev kinds_of : ResolvedTree → List UnitKind
kinds_of r = map (λ u. u.kind) (scheme r).units

-- `return 1 + 2;`
abbrev sum : ResolvedTree
sum = program_of (function_of [] [] (returns (binary_of binary.Add (number 1) (number 2))) ∷ [])

code_of_a_sum : ops_of sum ≡ (Const 0 ∷ Const 1 ∷ Add ∷ Return ∷ Const 2 ∷ Return ∷ []) ∷ []
unfolding scheme
code_of_a_sum = refl

constants_of_a_sum : (scheme sum).constants ≡ an_int (pos 1) ∷ an_int (pos 2) ∷ Nothing ∷ []
unfolding scheme
constants_of_a_sum = refl

-- `let c: C = new C(); return c.v + c.v;`
abbrev reads_twice : ResolvedTree
reads_twice = program_of (function_of [] (object 0 ∷ []) (block_more (let_slot 0 (new_object 0)) (returns (binary_of binary.Add (field_of (local_value 0) 0 0 int) (field_of (local_value 0) 0 0 int)))) ∷ [])

code_with_barriers : ops_of reads_twice ≡ (NewObject 0 ∷ Store 0 ∷ Load 0 ∷ ReadBarrier 0 ∷ GetField 0 ∷ Load 0 ∷ ReadBarrier 0 ∷ GetField 0 ∷ Add ∷ Return ∷ Const 0 ∷ Return ∷ []) ∷ []
unfolding scheme
code_with_barriers = refl

-- `let x: int = 1; region (label{;}, caps{}) [x] { } catch (e) { } return x;`
abbrev enters : ResolvedTree
enters = program_of (function_of [] (int ∷ []) (block_more (let_slot 0 (number 1)) (block_more (region_block 0 (label_of args_end args_end) (caps_of []) (0 ∷ []) (int ∷ int ∷ []) block_end 1 block_end) (returns (local_value 0)))) ∷ [])

code_of_a_region : ops_of enters ≡ (Const 0 ∷ Store 0 ∷ MakeLabel 0 0 ∷ NoCaps ∷ Load 0 ∷ EnterRegion 0 ∷ Load 0 ∷ Return ∷ Const 1 ∷ Return ∷ []) ∷ (LeaveRegion ∷ Store 1 ∷ LeaveRegion ∷ []) ∷ []
unfolding scheme
code_of_a_region = refl

units_of_a_region : kinds_of enters ≡ Function (codes "f") [] true ∷ Region 0 1 1 ∷ []
unfolding scheme
units_of_a_region = refl

-- `fn f(n: int): int { return n; } fn f(): int { return f(3); }`
abbrev calls : ResolvedTree
calls = program_of (function_of (int ∷ []) (int ∷ []) (returns (local_value 0)) ∷ function_of [] [] (returns (call_of 0 (args_more (number 3) args_end))) ∷ [])

code_of_a_call : ops_of calls ≡ (Load 0 ∷ Return ∷ Const 0 ∷ Return ∷ []) ∷ (Const 1 ∷ Call 0 ∷ Return ∷ Const 0 ∷ Return ∷ []) ∷ []
unfolding scheme
code_of_a_call = refl

-- `while (a && a) { a = false; } if (a) { return 1; } else { return 1; }`: a constant stands once
abbrev branches : ResolvedTree
branches = program_of (function_of (bool ∷ []) (bool ∷ []) (block_more (while_block (binary_of binary.And (local_value 0) (local_value 0)) (block_more (set_local 0 (bool_value false)) block_end)) (block_more (if_block (local_value 0) (returns (number 1)) (other_block (returns (number 1)))) block_end)) ∷ [])

code_of_branches : ops_of branches ≡ (Load 0 ∷ JumpIfFalse 4 ∷ Load 0 ∷ Jump 5 ∷ Const 0 ∷ JumpIfFalse 9 ∷ Const 0 ∷ Store 0 ∷ Jump 0 ∷ Load 0 ∷ JumpIfFalse 14 ∷ Const 1 ∷ Return ∷ Jump 16 ∷ Const 1 ∷ Return ∷ Const 2 ∷ Return ∷ []) ∷ []
unfolding scheme
code_of_branches = refl

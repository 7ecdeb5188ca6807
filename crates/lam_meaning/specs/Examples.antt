-- Worked examples: what small programs ask.
use Rattle.std.specs.Prelude.{◌≡◌, pos, List, [], ◌∷◌, Some, None, codes, refl}
use Rattle.thread_steps.specs.Changes.{no_caps}
use Rattle.flow_labels.specs.Flow.{public_label}
use Rattle.thread_steps.specs.Value.{Value}
use Rattle.thread_steps.specs.Value.TheVariants.{Int, Obj}
use Rattle.thread_steps.specs.Name.{Name}
use Rattle.lam_operators.specs.declared.BinaryOp.TheVariants.{Add, Div, Lt}
use Rattle.lam_builtins.specs.declared.Builtin.TheVariants.{Say}
use Rattle.lam_builtins.specs.Types.{int, object}
use Rattle.thread_steps.specs.Fault.TheVariants.{Zero}
use Rattle.thread_steps.specs.Outcome.TheVariants as outcome
use Rattle.thread_steps.specs.Answer.TheVariants.{Done, Entered}
use Rattle.thread_steps.specs.Ask.TheVariants as ask
use Rattle.thread_steps.specs.Builtins.{builtin}
use Rattle.lam_resolve_tree.specs.Tree.{ResolvedType, Expression, number_value, text_value, local_value, binary_of, builtin_of, call_of, label_of, caps_of, args_end, args_more, let_slot, while_block, return_value, sync_block, region_block, do_value, set_local, Block, block_end, block_more, ResolvedFunction, ResolvedTree}
use Rattle.lam_meaning.specs.Trees.{on_end}
use Rattle.lam_meaning.specs.Means.{means}
use Rattle.lam_meaning.specs.Plays.{is_spent, how_of, asks_made}

abbrev function_of : List ResolvedType → Block → ResolvedFunction
function_of slots body = record { name = codes "f"; params = []; result = Some int; slots = slots; body = body }

abbrev program_of : List ResolvedType → Block → ResolvedTree
program_of slots body = record { classes = []; functions = function_of slots body ∷ [] }

abbrev returns : Expression → Block
returns e = block_more (return_value (Some e)) block_end

-- `fn f(): int { return 1 + 2; }` ends with 3
sum_ends : asks_made (program_of [] (returns (binary_of Add (number_value (pos 1)) (number_value (pos 2))))) 0 0 [] no_caps [] ≡ ask.End (outcome.Value (Int (pos 3))) ∷ []
unfolding means on_end
sum_ends = refl

-- `fn f(): int { return 1 / 0; }` ends with the fault Zero
division_faults : asks_made (program_of [] (returns (binary_of Div (number_value (pos 1)) (number_value (pos 0))))) 0 0 [] no_caps [] ≡ ask.End (outcome.Failed Zero) ∷ []
unfolding means on_end
division_faults = refl

-- `fn f(): int { say("a"); return 7; }`: what is said, and when that is done the end
abbrev speaks : ResolvedTree
speaks = program_of [] (block_more (do_value (builtin_of Say (args_more (text_value (codes "a")) args_end) None)) (returns (number_value (pos 7))))

speaks_first : asks_made speaks 0 0 [] no_caps [] ≡ ask.Say (codes "a") ∷ []
unfolding means on_end builtin
speaks_first = refl

speaks_then_ends : asks_made speaks 0 0 [] no_caps (Done ∷ []) ≡ ask.Say (codes "a") ∷ ask.End (outcome.Value (Int (pos 7))) ∷ []
unfolding means on_end builtin
speaks_then_ends = refl

-- an answer that does not suit ends the asks there
speaks_to_no_end : asks_made speaks 0 0 [] no_caps (Entered ∷ []) ≡ ask.Say (codes "a") ∷ []
unfolding means on_end builtin
speaks_to_no_end = refl

-- `fn f(): int { let i: int = 0; while (i < 2) { i = i + 1; } return i; }`: two turns take two units
abbrev counts : ResolvedTree
counts =
    program_of (int ∷ [])
    (block_more (let_slot 0 (number_value (pos 0)))
    (block_more (while_block (binary_of Lt (local_value 0) (number_value (pos 2))) (block_more (set_local 0 (binary_of Add (local_value 0) (number_value (pos 1)))) block_end))
    (returns (local_value 0))))

one_unit_is_spent : how_of (means counts 1 0 [] no_caps) [] ≡ is_spent
unfolding means on_end
one_unit_is_spent = refl

two_units_suffice : asks_made counts 2 0 [] no_caps [] ≡ ask.End (outcome.Value (Int (pos 2))) ∷ []
unfolding means on_end
two_units_suffice = refl

-- `fn f(): int { return f(); }` never ends, whatever its units
calls_itself : how_of (means (program_of [] (returns (call_of 0 args_end))) 3 0 [] no_caps) [] ≡ is_spent
unfolding means on_end
calls_itself = refl

-- a `return` inside a `sync` gives the monitor back first; the slot keeps the reference
abbrev locks : ResolvedTree
locks = program_of (object 0 ∷ object 0 ∷ []) (block_more (sync_block 1 (local_value 0) (returns (number_value (pos 5)))) block_end)

gives_back : (r : Name) → asks_made locks 0 0 (Obj r ∷ []) no_caps (Done ∷ Done ∷ []) ≡ ask.MonEnter (Obj r) ∷ ask.MonLeave (Obj r) ∷ ask.End (outcome.Value (Int (pos 5))) ∷ []
unfolding means on_end
gives_back r = refl

-- a fault in a region's body is caught, one in its catch block suppressed, and the outside goes on as it was:
-- `let x: int = 1; region (label{;}, caps{}) [x] { x = x / 0; } catch (e) { x = 1 / 0; } return x;`
abbrev fails_twice : ResolvedTree
fails_twice =
    program_of (int ∷ [])
    (block_more (let_slot 0 (number_value (pos 1)))
    (block_more (region_block 0 (label_of args_end args_end) (caps_of []) (0 ∷ []) (int ∷ int ∷ [])
    (block_more (set_local 0 (binary_of Div (local_value 0) (number_value (pos 0)))) block_end) 1
    (block_more (set_local 0 (binary_of Div (number_value (pos 1)) (number_value (pos 0)))) block_end))
    (returns (local_value 0))))

caught_and_suppressed : asks_made fails_twice 0 0 [] no_caps (Entered ∷ Done ∷ Done ∷ []) ≡ ask.Enter public_label no_caps 0 (Int (pos 1) ∷ []) ∷ ask.Caught Zero ∷ ask.Suppressed Zero ∷ ask.End (outcome.Value (Int (pos 1))) ∷ []
unfolding means on_end
caught_and_suppressed = refl

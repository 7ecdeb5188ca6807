-- Worked examples: threads that run alone.
use Rattle.std.specs.Prelude.{◌≡◌, ℕ, pos, true, List, [], ◌∷◌, Some, codes, refl}
use Rattle.capabilities.specs.Changes.{no_caps}
use Rattle.lam_value.specs.declared.values.Value.TheVariants.{Int as an_int}
use Rattle.lam_operators.specs.declared.BinaryOp.TheVariants as binary
use Rattle.lam_builtins.specs.Types.{int}
use Rattle.lam_asks.specs.declared.answer.Outcome.TheVariants as outcome
use Rattle.lam_asks.specs.declared.answer.Answer.TheVariants.{Done}
use Rattle.lam_asks.specs.declared.ask.Ask.TheVariants as ask
use Rattle.thread_steps.specs.Ops.{effect}
use Rattle.thread_steps.specs.Next.{next_of}
use Rattle.lam_resolve_tree.specs.Tree.{ResolvedType, Expression, number_value, bool_value, binary_of, call_of, local_value, args_end, args_more, while_block, return_value, Block, block_end, block_more, ResolvedFunction, ResolvedTree}
use Rattle.lam_meaning_typed.specs.Scheme.{scheme}
use Rattle.lam_meaning_laws.specs.Lone.{asks_in, work_done, bound}
use Rattle.lam_meaning_laws.specs.Acts.{lone}

abbrev returns : Expression → Block
returns e = block_more (return_value (Some e)) block_end

abbrev number : ℕ → Expression
number n = number_value (pos n)

abbrev function_of : List ResolvedType → Block → ResolvedFunction
function_of params body = record { name = codes "f"; params = params; result = Some int; slots = params; body = body }

abbrev program_of : List ResolvedFunction → ResolvedTree
program_of fs = record { classes = []; functions = fs }

-- `return 1 + 2;` ends with 3, in four turns
abbrev sum : ResolvedTree
sum = program_of (function_of [] (returns (binary_of binary.Add (number 1) (number 2))) ∷ [])

sum_ends : asks_in (lone sum 0 [] no_caps (Done ∷ []) 4) ≡ ask.End (outcome.Value (an_int (pos 3))) ∷ []
unfolding scheme next_of effect
sum_ends = refl

bound_of_sum : bound sum ≡ 7
bound_of_sum = refl

-- `fn f(n: int): int { return n; } fn f(): int { return f(3); }`
abbrev calls : ResolvedTree
calls = program_of (function_of (int ∷ []) (returns (local_value 0)) ∷ function_of [] (returns (call_of 0 (args_more (number 3) args_end))) ∷ [])

call_ends : asks_in (lone calls 1 [] no_caps (Done ∷ []) 5) ≡ ask.End (outcome.Value (an_int (pos 3))) ∷ []
unfolding scheme next_of effect
call_ends = refl

-- `while (true) { } return 1;` asks nothing, and works at each turn
abbrev endless : ResolvedTree
endless = program_of (function_of [] (block_more (while_block (bool_value true) block_end) (returns (number 1))) ∷ [])

endless_asks : asks_in (lone endless 0 [] no_caps [] 7) ≡ []
unfolding scheme next_of effect
endless_asks = refl

endless_works : work_done (lone endless 0 [] no_caps [] 7) ≡ 7
unfolding scheme next_of effect
endless_works = refl

-- Worked examples: what the rounds find in the code of small programs, computed.
use Rattle.std.specs.Prelude.{◌≡◌, ℕ, pos, true, List, [], ◌∷◌, length, Option, Some, None, codes, refl}
use Rattle.lam_operators.specs.declared.BinaryOp.TheVariants as binary
use Rattle.lam_builtins.specs.Types.{int, object}
use Rattle.lam_resolve_tree.specs.Tree.{ResolvedType, Expression, number_value, bool_value, local_value, binary_of, field_of, label_of, caps_of, args_end, while_block, return_value, region_block, set_field, Block, block_end, block_more, ResolvedTree}
use Rattle.lam_meaning.specs.Scheme.{scheme}
use Rattle.guarded_code.specs.Breaks.{Rule, Depth, Kind, CodeBreak, first_code_break}

-- a function of one parameter, in a program with one class that has a number
abbrev program : ResolvedType → Block → ResolvedTree
program t body = record { classes = (int ∷ []) ∷ []; functions = record { name = codes "f"; params = t ∷ []; result = Some int; slots = t ∷ []; body = body } ∷ [] }

abbrev returns : Expression → Block
returns e = block_more (return_value (Some e)) block_end

abbrev number : ℕ → Expression
number n = number_value (pos n)

abbrev field : Expression
field = field_of (local_value 0) 0 0 int

abbrev breaks : Rule → ℕ → ℕ → Option CodeBreak
breaks rule unit at = Some (record { rule = rule; unit = unit; at = at })

-- `fn f(c: C): int { while (c.v < 3) { c.v = c.v + 1; } return c.v; }`
abbrev counts : ResolvedTree
counts = program (object 0) (block_more (while_block (binary_of binary.Lt field (number 3)) (block_more (set_field (local_value 0) 0 0 int (binary_of binary.Add field (number 1))) block_end)) (returns field))

counts_is_guarded : first_code_break (scheme counts) ≡ None
unfolding first_code_break scheme
counts_is_guarded = refl

-- a region with these captures and nothing in it, which are the first of its slots
abbrev enters : ℕ → List ℕ → List ResolvedType → Block → Block
enters n from own rest = block_more (region_block n (label_of args_end args_end) (caps_of []) from own block_end (length from) block_end) rest

-- `region (label{;}, caps{}) [n] { } catch (e) { } region (label{;}, caps{}) [] { } catch (e) { } return n;`
abbrev two_regions : ℕ → ℕ → ResolvedTree
two_regions m n = program int (enters m (0 ∷ []) (int ∷ int ∷ []) (enters n [] (int ∷ []) (returns (local_value 0))))

two_are_guarded : first_code_break (scheme (two_regions 0 1)) ≡ None
unfolding first_code_break scheme
two_are_guarded = refl

-- ---- without a premise: a program that is not typed, and one whose regions have one number

-- `return true + 1;`
not_typed : first_code_break (scheme (program int (returns (binary_of binary.Add (bool_value true) (number 1))))) ≡ breaks Kind 0 2
unfolding first_code_break scheme
not_typed = refl

not_numbered : first_code_break (scheme (two_regions 0 0)) ≡ breaks Depth 0 6
unfolding first_code_break scheme
not_numbered = refl

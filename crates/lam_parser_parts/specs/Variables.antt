-- What reading names, with their types or without, gives.
use Rattle.std.specs.Prelude.{◌≡◌, ℕ, List, [], ◌∷◌, Vec, Result, Ok, Err, slice_get}
use Rattle.std.specs.declared.alloc.Global.{Global}
use Rattle.lam_grammar_laws.specs.Grammar.{rule}
use Rattle.lam_lexer.specs.declared.token.Token.{Token}
use Rattle.lam_syntax.specs.declared.Id.{Id}
use Rattle.lam_syntax.specs.declared.Var.{Var}
use Rattle.lam_syntax.specs.Tree.{id_tree, ids_tree, var_tree, vars_tree}
use Rattle.lam_grammar.specs.Table.{Rule, variable}
use Rattle.lam_grammar.specs.Meaning.{Value, id_of, ids_value, variable_value, variables_value}
use Rattle.lam_parser_tokens.specs.declared.breaks.Break.{Break}
use Rattle.lam_parser_tokens.specs.declared.marks.Mark.TheVariants.{Name}
use Rattle.lam_parser_tokens.specs.Reading.{Gives, Fails, Taken, TakeFails}

-- A part, and the token after it: it is of the rule, whatever was read before, and leaves the depth sum as it was.
abbrev pub ReadsPart : (A : Type 0) → (A → Value) → List Token → Rule → ℕ → ℕ → Result (A × ℕ) Break → Type 0
ReadsPart A means tokens r s i (Ok x) = Gives (slice_get tokens) r s i (means x.0) x.1 s
ReadsPart A means tokens r s i (Err b) = Fails (slice_get tokens) (rule r ∷ []) s i b

abbrev pub ReadsVariable : List Token → ℕ → ℕ → Result (Var × ℕ) Break → Type 0
ReadsVariable tokens s i x = ReadsPart Var (λ v. variable_value (var_tree v)) tokens variable s i x

-- fields or parameters
abbrev pub ReadsVariables : List Token → Rule → ℕ → ℕ → Result (Vec Var Global × ℕ) Break → Type 0
ReadsVariables tokens r s i x = ReadsPart (Vec Var Global) (λ v. variables_value (vars_tree v.items)) tokens r s i x

abbrev pub ReadsNames : List Token → Rule → ℕ → ℕ → Result (Vec Id Global × ℕ) Break → Type 0
ReadsNames tokens r s i x = ReadsPart (Vec Id Global) (λ v. ids_value (ids_tree v.items)) tokens r s i x

-- The name at i, within the depth limit.
abbrev pub TakesName : List Token → ℕ → ℕ → Result Id Break → Type 0
TakesName tokens s i (Ok x) = (w : Token) × Taken tokens s i Name w × (id_tree x ≡ id_of w)
TakesName tokens s i (Err b) = TakeFails tokens s i Name b

-- What reading a type gives.
use Rattle.std.specs.Prelude.{ℕ, List, [], ◌∷◌, Result, Ok, Err, slice_get}
use Rattle.lam_grammar_laws.specs.Grammar.{rule}
use Rattle.lam_lexer.specs.declared.token.Token.{Token}
use Rattle.lam_syntax.specs.declared.TypeExpr.{TypeExpr}
use Rattle.lam_syntax.specs.Tree.{type_tree}
use Rattle.lam_grammar.specs.Table.{typ}
use Rattle.lam_grammar.specs.Meaning.{type_value}
use Rattle.lam_parser_tokens.specs.declared.breaks.Break.{Break}
use Rattle.lam_parser_tokens.specs.Reading.{Gives, Fails}

-- a type, and the index of the token behind it
abbrev pub ReadsType : List Token → ℕ → ℕ → Result (TypeExpr × ℕ) Break → Type 0
ReadsType tokens s i (Ok x) = Gives (slice_get tokens) typ s i (type_value (type_tree x.0)) x.1 s
ReadsType tokens s i (Err b) = Fails (slice_get tokens) (rule typ ∷ []) s i b

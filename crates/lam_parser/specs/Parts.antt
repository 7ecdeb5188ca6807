-- What reading a part of a program gives.
use Rattle.std.specs.Prelude.{ℕ, List, Option, Some, None, Vec, Result}
use Rattle.std.specs.declared.alloc.Global.{Global}
use Rattle.lam_lexer.specs.declared.token.Token.{Token}
use Rattle.lam_syntax.specs.declared.TypeExpr.{TypeExpr}
use Rattle.lam_syntax.specs.declared.Stmt.{Stmt}
use Rattle.lam_syntax.specs.declared.Item.{Item}
use Rattle.lam_syntax.specs.Tree.{id_tree, type_tree, stmts_tree, else_tree, item_tree}
use Rattle.lam_grammar.specs.Table.{block, handler, else_part, result_part, item}
use Rattle.lam_grammar.specs.Meaning.{Value, nothing, type_value, stmts_value, else_value, handler_value, item_value}
use Rattle.lam_parser_tokens.specs.declared.breaks.Break.{Break}
use Rattle.lam_parser_parts.specs.Variables.{ReadsPart}
use Rattle.lam_parser_stmts.specs.declared.nodes.Handler.{Handler}

abbrev pub ReadsBlock : List Token → ℕ → ℕ → Result (Vec Stmt Global × ℕ) Break → Type 0
ReadsBlock tokens s i x = ReadsPart (Vec Stmt Global) (λ v. stmts_value (stmts_tree v.items)) tokens block s i x

abbrev pub ReadsElse : List Token → ℕ → ℕ → Result (Option (Vec Stmt Global) × ℕ) Break → Type 0
ReadsElse tokens s i x = ReadsPart (Option (Vec Stmt Global)) (λ v. else_value (else_tree v)) tokens else_part s i x

abbrev pub ReadsHandler : List Token → ℕ → ℕ → Result (Handler × ℕ) Break → Type 0
ReadsHandler tokens s i x = ReadsPart Handler (λ h. handler_value (id_tree h.name) (stmts_tree h.body.items)) tokens handler s i x

-- a type, or nothing
abbrev pub type_or_nothing : Option TypeExpr → Value
type_or_nothing None = nothing
type_or_nothing (Some t) = type_value (type_tree t)

abbrev pub ReadsResult : List Token → ℕ → Result (Option TypeExpr × ℕ) Break → Type 0
ReadsResult tokens i x = ReadsPart (Option TypeExpr) type_or_nothing tokens result_part 0 i x

abbrev pub ReadsItem : List Token → ℕ → Result (Item × ℕ) Break → Type 0
ReadsItem tokens i x = ReadsPart Item (λ v. item_value (item_tree v)) tokens item 0 i x

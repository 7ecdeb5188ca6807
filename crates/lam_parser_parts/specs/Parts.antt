-- What reading the parts of a primary expression gives.
use Rattle.std.specs.Prelude.{◌≡◌, ◌+◌, ◌<◌, ℕ, List, [], ◌∷◌, Result, Ok, Err, slice_get, Vec}
use Rattle.std.specs.Global.{Global}
use Rattle.lam_grammar_laws.specs.Grammar.{rule}
use Rattle.lam_lexer.specs.declared.token.Token.{Token}
use Rattle.lam_syntax.specs.declared.Expr.{Expr}
use Rattle.lam_syntax.specs.declared.ExprKind.{ExprKind}
use Rattle.lam_syntax.specs.declared.CapItem.{CapItem}
use Rattle.lam_syntax.specs.Tree.{ExprTree, expr_node, field_expr, element_expr, expr_tree, exprs_tree, expr_form, caps_tree, cap_tree}
use Rattle.lam_grammar.specs.Table.{Rule, expr}
use Rattle.lam_grammar.specs.Meaning.{expr_value, exprs_value, form_value, caps_value, cap_value, id_of}
use Rattle.lam_parser_tokens.specs.declared.breaks.Break.{Break}
use Rattle.lam_parser_tokens.specs.declared.marks.Mark.TheVariants.{Member, IndexClose}
use Rattle.lam_parser_tokens.specs.declared.tokens.Read.{Read}
use Rattle.lam_parser_tokens.specs.Reading.{Gives, Fails, Taken, TakeFails}

-- expressions, and the place behind them
abbrev pub ReadsArgs : List Token → Rule → ℕ → ℕ → Result (Vec Expr Global × ℕ) Break → Type 0
ReadsArgs tokens r s i (Ok x) = Gives (slice_get tokens) r s i (exprs_value (exprs_tree x.0.items)) x.1 s
ReadsArgs tokens r s i (Err b) = Fails (slice_get tokens) (rule r ∷ []) s i b

-- tags with their signs
abbrev pub ReadsCaps : List Token → Rule → ℕ → ℕ → Result (Vec CapItem Global × ℕ) Break → Type 0
ReadsCaps tokens r s i (Ok x) = Gives (slice_get tokens) r s i (caps_value (caps_tree x.0.items)) x.1 s
ReadsCaps tokens r s i (Err b) = Fails (slice_get tokens) (rule r ∷ []) s i b

-- a tag with its sign
abbrev pub ReadsCap : List Token → Rule → ℕ → ℕ → Result (CapItem × ℕ) Break → Type 0
ReadsCap tokens r s i (Ok x) = Gives (slice_get tokens) r s i (cap_value (cap_tree x.0)) x.1 s
ReadsCap tokens r s i (Err b) = Fails (slice_get tokens) (rule r ∷ []) s i b

-- what an expression is, without its position
abbrev pub ReadsForm : List Token → Rule → ℕ → ℕ → Result (ExprKind × ℕ) Break → Type 0
ReadsForm tokens r s i (Ok x) = Gives (slice_get tokens) r s i (form_value (expr_form x.0)) x.1 s
ReadsForm tokens r s i (Err b) = Fails (slice_get tokens) (rule r ∷ []) s i b

-- x is what was read, with the field whose dot stands behind it
pub record IsMember (tokens : List Token) (of x : Read) : Type 0 where
  pub name : Token
  pub taken : Taken tokens of.depth (of.next + 1) Member name
  pub tree : expr_tree x.expr.value ≡ expr_node of.begin (field_expr (expr_tree of.expr.value) (id_of name))
  pub begins : x.begin ≡ of.begin
  pub next : x.next ≡ of.next + 1 + 1
  pub depth : x.depth ≡ of.depth + 1

-- behind a bracket, an index and its closing bracket
pub record Index (tokens : List Token) (of : Read) (k : ℕ) : Type 0 where
  pub begin : ℕ
  pub tree : ExprTree
  pub reads : Gives (slice_get tokens) expr of.depth (of.next + 1) (expr_value begin tree) k of.depth
  pub goes_on : of.next + 1 < k

-- x is what was read, with the index whose bracket stands behind it
pub record IsElement (tokens : List Token) (of x : Read) : Type 0 where
  pub k : ℕ
  pub index : Index tokens of k
  pub close : Token
  pub taken : Taken tokens of.depth k IndexClose close
  pub tree : expr_tree x.expr.value ≡ expr_node of.begin (element_expr (expr_tree of.expr.value) index.tree)
  pub begins : x.begin ≡ of.begin
  pub next : x.next ≡ k + 1
  pub depth : x.depth ≡ of.depth + 1

-- the index, or its closing bracket, is not there
pub data IndexFails (tokens : List Token) (of : Read) (b : Break) : Type 0 where
  no_index : Fails (slice_get tokens) (rule expr ∷ []) of.depth (of.next + 1) b → IndexFails tokens of b
  no_close : (k : ℕ) → Index tokens of k → TakeFails tokens of.depth k IndexClose b → IndexFails tokens of b

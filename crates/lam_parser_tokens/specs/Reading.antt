-- What reading a rule of the grammar gives, from a token and a depth sum on.
use Rattle.std.specs.Prelude.{◌≡◌, ℕ, ◌<◌, ◌≤◌, List, [], ◌∷◌, Option, Some, true, false, Result, Ok, Err, slice_get}
use Rattle.lam_grammar_laws.specs.Grammar.{mark, rule, Reads}
use Rattle.lam_grammar_laws.specs.Texts.{limited}
use Rattle.lam_grammar_laws.specs.Stopping.{unexpected, too_deep, could, Stops}
use Rattle.lam_lexer.specs.declared.token.Token.{Token}
use Rattle.lam_syntax.specs.Tree.{expr_tree}
use Rattle.lam_grammar.specs.Table.{Rule, Sym}
use Rattle.lam_grammar.specs.Meaning.{Value, expr_value}
use Rattle.lam_grammar.specs.Program.{lam, most_depth}
use Rattle.lam_grammar.specs.Examples.{examples}
use Rattle.lam_parser_tokens.specs.declared.marks.Mark.{Mark}
use Rattle.lam_parser_tokens.specs.declared.breaks.Break.{Break}
use Rattle.lam_parser_tokens.specs.declared.breaks.Break.TheVariants.{Unexpected, TooDeep, NoMemory}
use Rattle.lam_parser_tokens.specs.declared.tokens.Read.{Read}
use Rattle.lam_parser_tokens.specs.Classes.{class_of, fits_at, sample_of, is_barred}

-- Whatever was read before them, reading the symbols stops as the break says: at a token that continues nothing, where
-- one of the wanted kind could stand, or where the sum passes its limit. Want of memory says nothing of the tokens.
abbrev pub Fails : (ℕ → Option Token) → List Sym → ℕ → ℕ → Break → Type 0
Fails look p s i (Unexpected at wanted) = ((before : Value) → Stops lam examples (limited lam) look p before s i (unexpected (is_barred wanted) at)) × ((before : Value) → Stops lam examples (limited lam) look p before s i (could at (sample_of wanted)))
Fails look p s i (TooDeep at) = (before : Value) → Stops lam examples (limited lam) look p before s i (too_deep at)
Fails look p s i NoMemory = Unit {0}

-- Whatever was read before it, the rule reads the tokens from i to before j, and they mean v.
abbrev pub Gives : (ℕ → Option Token) → Rule → ℕ → ℕ → Value → ℕ → ℕ → Type 0
Gives look r s i v j t = (before : Value) → Reads lam (limited lam) look (rule r ∷ []) before s i (v ∷ []) j t

-- what reading an expression by a rule gives
abbrev pub ReadsExpr : List Token → Rule → ℕ → ℕ → Result Read Break → Type 0
ReadsExpr tokens r s i (Ok x) = Gives (slice_get tokens) r s i (expr_value x.begin (expr_tree x.expr.value)) x.next x.depth
ReadsExpr tokens r s i (Err b) = Fails (slice_get tokens) (rule r ∷ []) s i b

-- The token at i is of the class, within the depth limit.
pub record Taken (tokens : List Token) (s i : ℕ) (k : Mark) (w : Token) : Type 0 where
  pub is : slice_get tokens i ≡ Some w
  pub fit : (class_of k).fits w.kind ≡ true
  pub within : s ≤ most_depth

-- No token of the class is taken there.
abbrev pub TakeFails : List Token → ℕ → ℕ → Mark → Break → Type 0
TakeFails tokens s i k b = (rest : List Sym) → Fails (slice_get tokens) (mark (class_of k) ∷ rest) s i b

-- The token there is not of the class.
pub record Absent (tokens : List Token) (i : ℕ) (k : Mark) : Type 0 where
  pub no : fits_at k (slice_get tokens i) ≡ false

-- The token there is of the class, and the sum is past the limit.
pub record IsDeep (tokens : List Token) (s i : ℕ) (k : Mark) (b : Break) : Type 0 where
  pub w : Token
  pub is : slice_get tokens i ≡ Some w
  pub fit : (class_of k).fits w.kind ≡ true
  pub over : most_depth < s
  pub says : b ≡ TooDeep i

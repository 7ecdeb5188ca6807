-- Tokens of given kinds, wherever they stand in a text, and what ends an expression.
use Rattle.std.proofs.Common.{◌≡◌, ℕ, suc, ◌+◌, ◌<◌, ◌≤◌, true, false, Option, Some, None, List, [], ◌∷◌, ◌++◌, map, slice_get, refl, ap, ◌∙◌, subst, lit<, arith}
use Rattle.lam_grammar_laws.specs.Grammar.{rule, production}
use Rattle.lam_lexer.specs.declared.token.Token.{Token}
use Rattle.lam_lexer.specs.declared.token.TokenKind.{TokenKind}
use Rattle.lam_lexer.specs.declared.token.TokenKind.TheVariants as Kind
use Rattle.lam_grammar.specs.declared.Level.{Level}
use Rattle.lam_grammar.specs.declared.Level.TheVariants.{Or as or_level, And as and_level, Sum as sum_level, Term as term_level}
use Rattle.lam_grammar.specs.Table.{Rule, Sym, comparison_tail, post_tail, call_part, negates, begins_prim, begins_expr, operates}
use Rattle.lam_grammar.specs.Meaning.{Value, act}
use Rattle.lam_grammar.specs.Program.{lam}
use Rattle.lam_grammar.specs.Examples.{Ending, after_list, ending, admits, null}
use Rattle.lam_grammar.proofs.Passes.{sound}
use Rattle.lam_print.specs.Law.{kind_of}
use Rattle.lam_print.specs.Pieces.{Piece, token as piece, blank, line, kinds}
use Rattle.lam_print_laws.proofs.Spans.{Spans, nothing, part}

abbrev pub tok : ℕ → TokenKind → Token
tok at k = record { at = at; kind = k }

-- the kinds of the tokens of pieces, and the end
abbrev pub ended : List Piece → List TokenKind
ended [] = Kind.End ∷ []
ended (piece k ∷ ps) = k ∷ ended ps
ended (blank ∷ ps) = ended ps
ended (line n ∷ ps) = ended ps

pub ended_is : (ps : List Piece) → ended ps ≡ kinds ps ++ Kind.End ∷ []
ended_is [] = refl
ended_is (piece k ∷ ps) = ap (λ (ks : List TokenKind). k ∷ ks) (ended_is ps)
ended_is (blank ∷ ps) = ended_is ps
ended_is (line n ∷ ps) = ended_is ps

-- the tokens from i to the end of the text are of these kinds
abbrev pub Here : (ℕ → Option Token) → ℕ → List TokenKind → Type 0
Here look i [] = look i ≡ None
Here look i (k ∷ ks) = (at : ℕ) × (look i ≡ Some (tok at k)) × Here look (i + 1) ks

-- the token at i is of this kind
abbrev pub Stands : (ℕ → Option Token) → ℕ → TokenKind → Type 0
Stands look i k = (at : ℕ) × (look i ≡ Some (tok at k))

-- the tokens of a list
tokens_from : (look : ℕ → Option Token) (ts : List Token) (i : ℕ) → ((j : ℕ) → look (i + j) ≡ slice_get ts j) → Here look i (map kind_of ts)
tokens_from look [] i e =
    let z : i + 0 ≡ i = omega arith in
    subst (λ (n : ℕ). look n ≡ None) z (e 0)
tokens_from look (w ∷ ts) i e =
    let z : i + 0 ≡ i = omega arith in (
      w.at,
      subst (λ (n : ℕ). look n ≡ Some w) z (e 0),
      tokens_from look ts (i + 1) (λ j.
          let n : i + 1 + j ≡ i + suc j = omega arith in
          ap look n ∙ e (suc j)),
    )

pub all_here : (ts : List Token) (ks : List TokenKind) → map kind_of ts ≡ ks → Here (slice_get ts) 0 ks
all_here ts ks e = subst (λ (x : List TokenKind). Here (slice_get ts) 0 x) e (tokens_from (slice_get ts) ts 0 (λ j.
    let n : 0 + j ≡ j = omega arith in
    ap (slice_get ts) n))

-- The rule reads the tokens from i to before j, and means v.
abbrev pub Gives : (ℕ → Option Token) → Rule → Value → ℕ → Value → ℕ → Type 0
Gives look r before i v j = Spans lam look (rule r ∷ []) before i (v ∷ []) j

-- by that body, before a token
pub made : {look : ℕ → Option Token} {i k : ℕ} {w : Token} (r : Rule) (before : Value) (body : List Sym) (us : List Value) → look i ≡ Some w → production lam r before (Some w) ≡ Some body → Spans lam look body before i us k → Gives look r before i (act r us) k
made r before body us e q h = part (ap (production lam r before) e ∙ q) h nothing

-- The rule reads x back from i on, but for places, and then come the kinds ks.
pub record Back (look : ℕ → Option Token) (A : Type 0) (wrap : A → Value) (bare : A → A) (r : Rule) (x : A) (i : ℕ) (ks : List TokenKind) : Type 0 where
  pub tree : A
  pub end : ℕ
  pub gives : (before : Value) → Gives look r before i (wrap tree) end
  pub rest : Here look end ks
  pub same : bare tree ≡ bare x

-- ---- what may follow

-- what ends a list
pub data Closing : TokenKind → Type 0 where
  paren : Closing Kind.ParenClose
  bracket : Closing Kind.BracketClose
  brace : Closing Kind.BraceClose
  semicolon : Closing Kind.Semicolon

abbrev pub Closed : List TokenKind → Type 0
Closed [] = ⊥
Closed (k ∷ ks) = Closing k

-- how strongly a token that stands behind an expression binds what it begins there
abbrev pub strength : TokenKind → ℕ
strength k = elim k [
  | Kind.ParenOpen ↦ 0
  | Kind.Dot ↦ 1
  | Kind.BracketOpen ↦ 1
  | Kind.Star ↦ 3
  | Kind.Slash ↦ 3
  | Kind.Percent ↦ 3
  | Kind.Plus ↦ 4
  | Kind.Minus ↦ 4
  | Kind.Equal ↦ 5
  | Kind.NotEqual ↦ 5
  | Kind.Less ↦ 5
  | Kind.LessEqual ↦ 5
  | Kind.Greater ↦ 5
  | Kind.GreaterEqual ↦ 5
  | Kind.And ↦ 6
  | Kind.Or ↦ 7
  | _ ↦ 8
]

-- what follows binds less strongly than that
abbrev pub Follow : ℕ → List TokenKind → Type 0
Follow p [] = ⊥
Follow p (k ∷ ks) = p < strength k

pub looser : (p q : ℕ) (ks : List TokenKind) → p ≤ q → Follow q ks → Follow p ks
looser p q [] l f = f
looser p q (k ∷ ks) l f = omega arith

loose : {k : TokenKind} → Closing k → 7 < strength k
loose paren = lit< tt
loose _ = lit< tt

pub follow_closed : (ks : List TokenKind) → Closed ks → Follow 7 ks
follow_closed [] c = c
follow_closed (k ∷ ks) c = loose c

-- the operators of each level
abbrev pub stage : Level → ℕ
stage term_level = 3
stage sum_level = 4
stage and_level = 6
stage or_level = 7

-- ---- before what does not go on with it, each part that may be empty is empty

no_term : (k : TokenKind) → 3 < strength k → operates term_level k ≡ false
no_term Kind.Star h = absurd (omega arith)
no_term _ h = first_of (cc, grind arith)

no_sum : (k : TokenKind) → 4 < strength k → operates sum_level k ≡ false
no_sum Kind.Plus h = absurd (omega arith)
no_sum _ h = first_of (cc, grind arith)

no_and : (k : TokenKind) → 6 < strength k → operates and_level k ≡ false
no_and Kind.And h = absurd (omega arith)
no_and _ h = refl

no_or : (k : TokenKind) → 7 < strength k → operates or_level k ≡ false
no_or Kind.Or h = absurd (omega arith)
no_or _ h = refl

pub no_operator : (l : Level) (k : TokenKind) → stage l < strength k → operates l k ≡ false
no_operator term_level k h = no_term k h
no_operator sum_level k h = no_sum k h
no_operator and_level k h = no_and k h
no_operator or_level k h = no_or k h

pub comparison_ends : (before : Value) (at : ℕ) (k : TokenKind) → 5 < strength k → production lam comparison_tail before (Some (tok at k)) ≡ Some []
comparison_ends before at Kind.Equal h = absurd (omega arith)
comparison_ends before at _ h = first_of (cc, grind arith)

pub post_ends : (before : Value) (at : ℕ) (k : TokenKind) → 1 < strength k → production lam post_tail before (Some (tok at k)) ≡ Some []
post_ends before at Kind.Dot h = absurd (omega arith)
post_ends before at _ h = first_of (cc, grind arith)

pub call_ends : (before : Value) (at : ℕ) (k : TokenKind) → 0 < strength k → production lam call_part before (Some (tok at k)) ≡ Some []
call_ends before at Kind.ParenOpen h = absurd (omega arith)
call_ends before at _ h = refl

admitted : {k : TokenKind} → Closing k → admits after_list k ≡ true
admitted paren = refl
admitted _ = refl

-- before what ends a list
pub nil : (look : ℕ → Option Token) (A : Type 0) (wrap : A → Value) (bare : A → A) (r : Rule) (x : A) (i : ℕ) (ks : List TokenKind) → null r ≡ true → ending r ≡ after_list → act r [] ≡ wrap x → Here look i ks → Closed ks → Back look A wrap bare r x i ks
nil look A wrap bare r x i [] n e a h c = absurd c
nil look A wrap bare r x i (k ∷ ks) n e a h c = record {
  tree = x;
  end = i;
  gives = λ before. subst (λ (v : Value). Gives look r before i v i) a (made r before [] [] h.1 (sound.empties r before (Some (tok h.0 k)) n (ap (λ (z : Ending). admits z k) e ∙ admitted c)) nothing);
  rest = h;
  same = refl;
}

-- ---- first tokens

pub prim_expr : (k : TokenKind) → begins_prim k ≡ true → begins_expr k ≡ true
prim_expr Kind.Not h = refl
prim_expr _ h = cc

pub no_sign : (k : TokenKind) → begins_prim k ≡ true → negates k ≡ false
no_sign Kind.Not h = cc
no_sign _ h = cc

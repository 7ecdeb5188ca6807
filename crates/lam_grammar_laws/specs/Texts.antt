-- What a parser's answer says of the tokens that it was given.
-- A text of a grammar is a list of tokens that is of the symbols at the top, to its end.
use Rattle.std.specs.Prelude.{◌≡◌, ℕ, ◌+◌, ◌<◌, List, Some, None, slice_get, nat_lt, if◌then◌else◌}
use Rattle.lam_grammar_laws.specs.Grammar.{Grammar, Symbol, Reads, free}

abbrev pub limited : (G : Grammar) → ℕ → ℕ
limited G i = G.limit

-- the limit at the first d tokens, and another bound from there on
abbrev pub capped : (G : Grammar) → ℕ → ℕ → ℕ → ℕ
capped G d bound j = if nat_lt j d then G.limit else bound

-- The tokens are those of the symbols at the top, which mean the values.
pub record Spells (G : Grammar) (cap : ℕ → ℕ) (top : List (Symbol G.Class G.Rule)) (none : G.Value) (tokens : List G.Token) (vs : List G.Value) : Type 0 where
  pub end : ℕ
  pub sum : ℕ
  pub reads : Reads G cap (slice_get tokens) top none 0 0 vs end sum
  pub whole : slice_get tokens end ≡ None

-- Some text goes on from the first n tokens, with the sum within the limit at the first d of its tokens.
-- The place after the last token counts as one, at which the text ends.
pub record Continues (G : Grammar) (top : List (Symbol G.Class G.Rule)) (none : G.Value) (tokens : List G.Token) (n d : ℕ) : Type 0 where
  pub others : List G.Token
  pub same : (j : ℕ) → j < n → slice_get others j ≡ slice_get tokens j
  pub bound : ℕ
  pub vs : List G.Value
  pub spells : Spells G (capped G d bound) top none others vs

-- Some text goes on from the first n tokens with the token w.
pub record CouldStand (G : Grammar) (top : List (Symbol G.Class G.Rule)) (none : G.Value) (tokens : List G.Token) (n : ℕ) (w : G.Token) : Type 0 where
  pub others : List G.Token
  pub same : (j : ℕ) → j < n → slice_get others j ≡ slice_get tokens j
  pub next : slice_get others n ≡ Some w
  pub bound : ℕ
  pub vs : List G.Value
  pub spells : Spells G (capped G n bound) top none others vs

-- The token at n is the first that continues no text.
abbrev pub IsUnexpected : (G : Grammar) → List (Symbol G.Class G.Rule) → G.Value → List G.Token → ℕ → Type 0
IsUnexpected G top none tokens n = Continues G top none tokens n n × (Continues G top none tokens (n + 1) 0 → ⊥)

-- The token at n is the first at which the sum passes the limit.
abbrev pub IsTooDeep : (G : Grammar) → List (Symbol G.Class G.Rule) → G.Value → List G.Token → ℕ → Type 0
IsTooDeep G top none tokens n = Continues G top none tokens (n + 1) n × (Continues G top none tokens (n + 1) (n + 1) → ⊥)

-- The token at n would continue a text if each rule might stand after each value.
abbrev pub IsBarred : (G : Grammar) → List (Symbol G.Class G.Rule) → G.Value → List G.Token → ℕ → Type 0
IsBarred G top none tokens n = Continues (free G) top none tokens (n + 1) n

-- Texts that are derived from the bodies of a grammar, whatever token comes next.
use Rattle.std.specs.Prelude.{◌≡◌, ◌⊎◌, ◌<◌, ℕ, List, [], ◌∷◌, ◌++◌, true, slice_get}
use Rattle.lam_grammar_laws.specs.Grammar.{Symbol, mark, rule, Grammar}

-- it is one of them
pub data IsOneOf {A : Type 0} (x : A) : List A → Type 0 where
  first : {xs : List A} → IsOneOf x (x ∷ xs)
  later : {y : A} {xs : List A} → IsOneOf x xs → IsOneOf x (y ∷ xs)

-- Where the rule may not stand after the value, it is empty.
abbrev pub MayStand : (G : Grammar) → G.Rule → G.Value → List (Symbol G.Class G.Rule) → Type 0
MayStand G r before body = (G.permits r before ≡ true) ⊎ (body ≡ [])

-- `Derives G p before text vs`: the text is of the symbols p, each rule among them by some body of its own, and means vs.
-- The value before is the one derived last.
pub data Derives (G : Grammar) : List (Symbol G.Class G.Rule) → G.Value → List G.Token → List G.Value → Type 0 where
  nothing : {before : G.Value} → Derives G [] before [] []
  token : {c : G.Class} {rest : List (Symbol G.Class G.Rule)} {before : G.Value} {w : G.Token} {text : List G.Token} {vs : List G.Value} → G.fits c w ≡ true → Derives G rest (G.leaf w) text vs → Derives G (mark c ∷ rest) before (w ∷ text) (G.leaf w ∷ vs)
  part : {r : G.Rule} {body rest : List (Symbol G.Class G.Rule)} {before : G.Value} {text more : List G.Token} {us vs : List G.Value} → IsOneOf body (G.bodies r) → MayStand G r before body → Derives G body before text us → Derives G rest (G.act r us) more vs → Derives G (rule r ∷ rest) before (text ++ more) (G.act r us ∷ vs)

-- Some text of the symbols begins with the first n tokens.
pub record Extends (G : Grammar) (top : List (Symbol G.Class G.Rule)) (none : G.Value) (tokens : List G.Token) (n : ℕ) : Type 0 where
  pub others : List G.Token
  pub same : (j : ℕ) → j < n → slice_get others j ≡ slice_get tokens j
  pub vs : List G.Value
  pub derives : Derives G top none others vs

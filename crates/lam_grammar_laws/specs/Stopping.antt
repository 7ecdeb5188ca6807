-- Where reading stops, and what could stand there.
use Rattle.std.specs.Prelude.{◌≡◌, ℕ, ◌+◌, ◌<◌, ◌≤◌, List, [], ◌∷◌, Option, Some, None, Bool, true, false}
use Rattle.lam_grammar_laws.specs.Grammar.{Grammar, Symbol, mark, rule, production, enters, leaves, Reads}
use Rattle.lam_grammar_laws.specs.Examples.{Examples}

-- what reading comes to, and at which token
pub data Stop (Token : Type 0) : Type 0 where
  -- No text goes on with the token at the place. It is barred where only the value before it forbids it.
  unexpected : (barred : Bool) (place : ℕ) → Stop Token
  -- the sum passes the limit at the token
  too_deep : (place : ℕ) → Stop Token
  -- the token w could stand at the place
  could : (place : ℕ) (w : Token) → Stop Token
  -- the token at the place may stand there
  reached : (place : ℕ) → Stop Token

abbrev pub stop_place : {Token : Type 0} → Stop Token → ℕ
stop_place (unexpected b m) = m
stop_place (too_deep m) = m
stop_place (could m w) = m
stop_place (reached m) = m

abbrev pub fits_next : (G : Grammar) → G.Class → Option G.Token → Bool
fits_next G c None = false
fits_next G c (Some w) = G.fits c w

abbrev pub begins_next : (G : Grammar) → G.Rule → Option G.Token → Bool
begins_next G r None = false
begins_next G r (Some w) = G.begins r w

-- What could stand at the first token of a rule is the first of the rule's own text.
abbrev pub AtFirst : (G : Grammar) → Examples G → G.Rule → ℕ → Stop G.Token → Type 0
AtFirst G E r i (could m w) = m ≡ i → (w ≡ E.first r) × (E.null r ≡ false)
AtFirst G E r i x = Unit {0}

-- What could stand right after a rule ends the rule.
abbrev pub AfterLast : (G : Grammar) → Examples G → G.Rule → ℕ → Stop G.Token → Type 0
AfterLast G E r k (could m w) = m ≡ k → E.closes r w ≡ true
AfterLast G E r k x = Unit {0}

-- `Stops G E cap look p before s i x`: reading the symbols p from i on comes to what x says.
pub data Stops (G : Grammar) (E : Examples G) (cap : ℕ → ℕ) (look : ℕ → Option G.Token) : List (Symbol G.Class G.Rule) → G.Value → ℕ → ℕ → Stop G.Token → Type 0 where
  wrong : {c : G.Class} {rest : List (Symbol G.Class G.Rule)} {before : G.Value} {s i : ℕ} → fits_next G c (look i) ≡ false → Stops G E cap look (mark c ∷ rest) before s i (unexpected false i)
  deep : {c : G.Class} {rest : List (Symbol G.Class G.Rule)} {before : G.Value} {s i : ℕ} {w : G.Token} → look i ≡ Some w → G.fits c w ≡ true → cap i < s → Stops G E cap look (mark c ∷ rest) before s i (too_deep i)
  there : {c : G.Class} {rest : List (Symbol G.Class G.Rule)} {before : G.Value} {s i : ℕ} {w : G.Token} → look i ≡ Some w → G.fits c w ≡ true → Stops G E cap look (mark c ∷ rest) before s i (reached i)
  -- a token of the class could stand here
  sample : {c : G.Class} {rest : List (Symbol G.Class G.Rule)} {before : G.Value} {s i : ℕ} → Stops G E cap look (mark c ∷ rest) before s i (could i (E.sample c))
  -- the rule, which is empty here, could begin here
  opens : {r : G.Rule} {rest : List (Symbol G.Class G.Rule)} {before : G.Value} {s i : ℕ} → E.fills r ≡ true → Stops G E cap look (rule r ∷ rest) before s i (could i (E.first r))
  -- the rule, which may be empty, is left out before a token that ends it, whatever the token here is
  skips : {r : G.Rule} {rest : List (Symbol G.Class G.Rule)} {before : G.Value} {s i : ℕ} {w : G.Token} → E.null r ≡ true → E.closes r w ≡ true → Stops G E cap look rest (G.act r []) (leaves G r s (enters G r s)) i (could i w) → Stops G E cap look (rule r ∷ rest) before s i (could i w)
  later : {c : G.Class} {rest : List (Symbol G.Class G.Rule)} {before : G.Value} {s i : ℕ} {w : G.Token} {x : Stop G.Token} → look i ≡ Some w → G.fits c w ≡ true → s ≤ cap i → Stops G E cap look rest (G.leaf w) (s + G.weight c) (i + 1) x → Stops G E cap look (mark c ∷ rest) before s i x
  inside : {r : G.Rule} {body rest : List (Symbol G.Class G.Rule)} {before : G.Value} {s i : ℕ} {x : Stop G.Token} → production G r before (look i) ≡ Some body → AtFirst G E r i x → Stops G E cap look body before (enters G r s) i x → Stops G E cap look (rule r ∷ rest) before s i x
  after : {r : G.Rule} {body rest : List (Symbol G.Class G.Rule)} {before : G.Value} {s i k u : ℕ} {us : List G.Value} {x : Stop G.Token} → production G r before (look i) ≡ Some body → Reads G cap look body before (enters G r s) i us k u → AfterLast G E r k x → Stops G E cap look rest (G.act r us) (leaves G r s u) k x → Stops G E cap look (rule r ∷ rest) before s i x
  -- the token would begin the rule if the rule might stand after the value before it
  barred : {r : G.Rule} {rest : List (Symbol G.Class G.Rule)} {before : G.Value} {s i : ℕ} → production G r before (look i) ≡ None → Stops G E cap look (rule r ∷ rest) before s i (unexpected true i)

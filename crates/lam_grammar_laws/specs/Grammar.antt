-- Grammars whose next body is chosen by the next token, and what is read by them.
use Rattle.std.specs.Prelude.{◌≡◌, ℕ, ◌+◌, ◌≤◌, List, [], ◌∷◌, Option, Some, None, Bool, true, false, cond}

-- A body is a list of these: one token of a class, or what a rule reads.
pub data Symbol (Class Rule : Type 0) : Type 0 where
  mark : Class → Symbol Class Rule
  rule : Rule → Symbol Class Rule

pub record Grammar : Type 1 where
  pub Token : Type 0
  pub Class : Type 0
  pub Rule : Type 0
  pub Value : Type 0
  -- is the token of the class?
  pub fits : Class → Token → Bool
  -- can the rule's text begin with the token?
  pub begins : Rule → Token → Bool
  -- the bodies of a rule, in the order in which they are tried
  pub bodies : Rule → List (List (Symbol Class Rule))
  -- may more than nothing be read by the rule after this value?
  pub permits : Rule → Value → Bool
  -- does the rule count in the depth sum while it is open?
  pub counts : Rule → Bool
  -- what a token of the class adds to the sum of the rule in which it stands
  pub weight : Class → ℕ
  -- the greatest sum that a token may have
  pub limit : ℕ
  -- what a token means
  pub leaf : Token → Value
  -- what a rule means, by what the parts of its body mean
  pub act : Rule → List Value → Value

-- Can the body begin with the token? The empty body stands before any.
abbrev pub starts : (G : Grammar) → List (Symbol G.Class G.Rule) → Option G.Token → Bool
starts G [] o = true
starts G (mark c ∷ rest) None = false
starts G (mark c ∷ rest) (Some w) = G.fits c w
starts G (rule r ∷ rest) None = false
starts G (rule r ∷ rest) (Some w) = G.begins r w

-- the first body that can begin with the next token, or else the last one
abbrev pub pick : (G : Grammar) → List (List (Symbol G.Class G.Rule)) → Option G.Token → List (Symbol G.Class G.Rule)
pick G [] o = []
pick G (body ∷ []) o = body
pick G (body ∷ other ∷ more) o = cond (starts G body o) body (pick G (other ∷ more) o)

abbrev pub is_empty : {A : Type 0} → List A → Bool
is_empty [] = true
is_empty (x ∷ xs) = false

-- The body by which the rule is read after a value and before a token. Where the rule may not stand after the value,
-- that is the empty body, and there is none before a token with which another body begins.
abbrev pub production : (G : Grammar) → G.Rule → G.Value → Option G.Token → Option (List (Symbol G.Class G.Rule))
production G r before o = cond (G.permits r before) (Some (pick G (G.bodies r) o)) (cond (is_empty (pick G (G.bodies r) o)) (Some []) None)

abbrev pub enters : (G : Grammar) → G.Rule → ℕ → ℕ
enters G r s = cond (G.counts r) (s + 1) s

-- what was read in a rule that counts no longer counts after it
abbrev pub leaves : (G : Grammar) → G.Rule → ℕ → ℕ → ℕ
leaves G r s u = cond (G.counts r) s u

-- `Reads G cap look p before s i vs j t`: the tokens from i to before j are of the symbols p, which mean vs.
-- The value before is the one read last. The sum is s before the first token and t after the last, and within the cap at each.
pub data Reads (G : Grammar) (cap : ℕ → ℕ) (look : ℕ → Option G.Token) : List (Symbol G.Class G.Rule) → G.Value → ℕ → ℕ → List G.Value → ℕ → ℕ → Type 0 where
  nothing : {before : G.Value} {s i : ℕ} → Reads G cap look [] before s i [] i s
  token : {c : G.Class} {rest : List (Symbol G.Class G.Rule)} {before : G.Value} {s i j t : ℕ} {w : G.Token} {vs : List G.Value} → look i ≡ Some w → G.fits c w ≡ true → s ≤ cap i → Reads G cap look rest (G.leaf w) (s + G.weight c) (i + 1) vs j t → Reads G cap look (mark c ∷ rest) before s i (G.leaf w ∷ vs) j t
  part : {r : G.Rule} {body rest : List (Symbol G.Class G.Rule)} {before : G.Value} {s i k j t u : ℕ} {us vs : List G.Value} → production G r before (look i) ≡ Some body → Reads G cap look body before (enters G r s) i us k u → Reads G cap look rest (G.act r us) (leaves G r s u) k vs j t → Reads G cap look (rule r ∷ rest) before s i (G.act r us ∷ vs) j t

-- the same grammar, where each rule may stand after each value
abbrev pub free : Grammar → Grammar
free G = record {
  Token = G.Token;
  Class = G.Class;
  Rule = G.Rule;
  Value = G.Value;
  fits = G.fits;
  begins = G.begins;
  bodies = G.bodies;
  permits = λ r before. true;
  counts = G.counts;
  weight = G.weight;
  limit = G.limit;
  leaf = G.leaf;
  act = G.act;
}

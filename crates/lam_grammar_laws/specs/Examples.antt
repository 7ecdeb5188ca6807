-- Short texts of each rule of a table, by which every text that was read so far can be finished.
use Rattle.std.specs.Prelude.{ℕ, ◌<◌, Bool, true, false, Option, Some, None, List, [], ◌∷◌, ◌++◌}
use Rattle.lam_grammar_laws.specs.Grammar.{Symbol, mark, rule, Grammar}

pub record Examples (G : Grammar) : Type 0 where
  -- a token of each class
  pub sample : G.Class → G.Token
  -- may the rule be empty?
  pub null : G.Rule → Bool
  -- a text of each rule, which is empty where the rule may be
  pub word : G.Rule → List G.Token
  -- the body by which that text is read, and a number above those of the rules in that body
  pub short : G.Rule → List (Symbol G.Class G.Rule)
  pub rank : G.Rule → ℕ
  pub top : ℕ
  -- Does the token end the rule? Before it each part with which the rule may end and which may be empty is empty.
  pub closes : G.Rule → G.Token → Bool
  -- the rules that may be empty and whose absence a parser's answer names, and a body of each that is not empty
  pub fills : G.Rule → Bool
  pub full : G.Rule → List (Symbol G.Class G.Rule)
  -- the first token of the rule's text, or of the text of that body
  pub first : G.Rule → G.Token

abbrev pub both : Bool → Bool → Bool
both true b = b
both false b = false

abbrev pub either : Bool → Bool → Bool
either true b = true
either false b = b

abbrev pub implies : Bool → Bool → Bool
implies true b = b
implies false b = true

-- each symbol is a rule that may be empty
abbrev pub all_empty : {Class Rule : Type 0} → (Rule → Bool) → List (Symbol Class Rule) → Bool
all_empty null [] = true
all_empty null (mark c ∷ rest) = false
all_empty null (rule r ∷ rest) = both (null r) (all_empty null rest)

-- a text of the symbols
abbrev pub words : (G : Grammar) → Examples G → List (Symbol G.Class G.Rule) → List G.Token
words G E [] = []
words G E (mark c ∷ rest) = E.sample c ∷ words G E rest
words G E (rule r ∷ rest) = E.word r ++ words G E rest

abbrev pub ends : {A : Type 0} → (A → Bool) → Option A → Bool
ends closing None = true
ends closing (Some w) = closing w

abbrev pub front_ends : {A : Type 0} → (A → Bool) → List A → Bool
front_ends closing [] = false
front_ends closing (w ∷ ws) = closing w

-- Does the token end the symbols?
abbrev pub closes_all : (G : Grammar) → Examples G → List (Symbol G.Class G.Rule) → Option G.Token → Bool
closes_all G E [] o = true
closes_all G E (mark c ∷ rest) o = closes_all G E rest o
closes_all G E (rule r ∷ rest) o = both (implies (all_empty E.null rest) (ends (E.closes r) o)) (closes_all G E rest o)

-- After each rule, what follows ends it.
abbrev pub followed : (G : Grammar) → Examples G → List (Symbol G.Class G.Rule) → Bool
followed G E [] = true
followed G E (mark c ∷ rest) = followed G E rest
followed G E (rule r ∷ rest) = both (either (all_empty E.null rest) (front_ends (E.closes r) (words G E rest))) (followed G E rest)

-- Each rule among the symbols has a lower number.
abbrev pub IsBelow : (G : Grammar) → (G.Rule → ℕ) → ℕ → List (Symbol G.Class G.Rule) → Type 0
IsBelow G rank n [] = Unit {0}
IsBelow G rank n (mark c ∷ rest) = IsBelow G rank n rest
IsBelow G rank n (rule r ∷ rest) = (rank r < n) × IsBelow G rank n rest

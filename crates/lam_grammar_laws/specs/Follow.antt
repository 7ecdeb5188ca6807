-- Which tokens may follow a rule, and tests that the next token tells where a rule is empty.
use Rattle.std.specs.Prelude.{List, [], ◌∷◌, Bool, true, false, cond}
use Rattle.lam_grammar_laws.specs.Grammar.{Symbol, mark, rule, Grammar}
use Rattle.lam_grammar_laws.specs.Examples.{both, either, implies}

pub record Follows (G : Grammar) : Type 0 where
  -- may the rule be empty?
  pub null : G.Rule → Bool
  -- may the token stand right after a text of the rule?
  pub follows : G.Rule → G.Token → Bool

-- The symbols begin with a token, or with a rule that is never empty.
abbrev pub opens : (G : Grammar) → Follows G → List (Symbol G.Class G.Rule) → Bool
opens G F [] = false
opens G F (mark c ∷ rest) = true
opens G F (rule q ∷ rest) = cond (F.null q) false true

-- There is a body, each body but the last begins so, and the last does or is empty, as the rule may be empty or not.
abbrev pub well_opened : (G : Grammar) → Follows G → Bool → List (List (Symbol G.Class G.Rule)) → Bool
well_opened G F empty [] = false
well_opened G F empty ([] ∷ []) = empty
well_opened G F empty ([] ∷ other ∷ more) = false
well_opened G F empty ((x ∷ body) ∷ []) = both (opens G F (x ∷ body)) (cond empty false true)
well_opened G F empty ((x ∷ body) ∷ other ∷ more) = both (opens G F (x ∷ body)) (well_opened G F empty (other ∷ more))

-- Can a text of the symbols begin with the token, or be empty before it? `after` says whether it may stand behind them.
abbrev pub meets : (G : Grammar) → Follows G → List (Symbol G.Class G.Rule) → Bool → G.Token → Bool
meets G F [] after w = after
meets G F (mark c ∷ rest) after w = G.fits c w
meets G F (rule q ∷ rest) after w = either (G.begins q w) (both (F.null q) (meets G F rest after w))

-- If the token can stand behind a rule among the symbols, it may follow the rule.
abbrev pub followed_by : (G : Grammar) → Follows G → List (Symbol G.Class G.Rule) → Bool → G.Token → Bool
followed_by G F [] after w = true
followed_by G F (mark c ∷ rest) after w = followed_by G F rest after w
followed_by G F (rule q ∷ rest) after w = both (implies (meets G F rest after w) (F.follows q w)) (followed_by G F rest after w)

abbrev pub all_followed_by : (G : Grammar) → Follows G → List (List (Symbol G.Class G.Rule)) → Bool → G.Token → Bool
all_followed_by G F [] after w = true
all_followed_by G F (body ∷ more) after w = both (followed_by G F body after w) (all_followed_by G F more after w)

-- The token does not follow the rule where it may be empty and could begin with it, and it follows what it can stand
-- behind in the rule's bodies.
abbrev pub apart : (G : Grammar) → Follows G → G.Rule → G.Token → Bool
apart G F r w = both (implies (F.null r) (implies (F.follows r w) (cond (G.begins r w) false true))) (all_followed_by G F (G.bodies r) (F.follows r w) w)

-- Tests of a table that compute, and the conditions that they give.
use Rattle.std.proofs.Common.{◌≡◌, Bool, true, false, cond, Option, Some, None, List, [], ◌∷◌, refl, sym, ap, ◌∙◌}
use Rattle.lam_grammar_laws.specs.Grammar.{Symbol, mark, rule, Grammar, starts, pick, is_empty, production}
use Rattle.lam_grammar_laws.specs.Examples.{Examples, both, implies, all_empty, ends, closes_all, followed}
use Rattle.lam_grammar_laws.proofs.Laws.{free_production}
use Rattle.lam_grammar_laws.proofs.Spelling.{both_left, both_right, both_of, implied}

pub empty_of : {A : Type 0} (xs : List A) → is_empty xs ≡ true → xs ≡ []
empty_of [] h = refl
empty_of (x ∷ xs) h = cc

-- What ends the rule ends each rule with which its body may end. `wide q r` is to say that what ends r ends q.
abbrev pub ends_within : (G : Grammar) → Examples G → (G.Rule → G.Rule → Bool) → G.Rule → List (Symbol G.Class G.Rule) → Bool
ends_within G E wide r [] = true
ends_within G E wide r (mark c ∷ rest) = ends_within G E wide r rest
ends_within G E wide r (rule q ∷ rest) = both (implies (all_empty E.null rest) (wide q r)) (ends_within G E wide r rest)

-- one body of a rule
abbrev pub passes_body : (G : Grammar) → Examples G → (G.Rule → G.Rule → Bool) → G.Rule → List (Symbol G.Class G.Rule) → Bool
passes_body G E wide r body = both (implies (all_empty E.null body) (both (is_empty body) (E.null r))) (both (ends_within G E wide r body) (followed G E body))

-- all bodies of a rule, of which there is one at least
abbrev pub passes_all : (G : Grammar) → Examples G → (G.Rule → G.Rule → Bool) → G.Rule → List (List (Symbol G.Class G.Rule)) → Bool
passes_all G E wide r [] = false
passes_all G E wide r (body ∷ []) = passes_body G E wide r body
passes_all G E wide r (body ∷ other ∷ more) = both (passes_body G E wide r body) (passes_all G E wide r (other ∷ more))

module _ (G : Grammar) (E : Examples G) (wide : G.Rule → G.Rule → Bool) where
  picked : (r : G.Rule) (all : List (List (Symbol G.Class G.Rule))) (o : Option G.Token) → passes_all G E wide r all ≡ true → passes_body G E wide r (pick G all o) ≡ true
  picked r [] o h = cc
  picked r (body ∷ []) o h = h
  picked r (body ∷ other ∷ more) o h = go (picked r (other ∷ more) o (both_right (passes_body G E wide r body) _ h)) (starts G body o)
    where
      go : passes_body G E wide r (pick G (other ∷ more) o) ≡ true → (t : Bool) → passes_body G E wide r (cond t body (pick G (other ∷ more) o)) ≡ true
      go rest true = both_left _ _ h
      go rest false = rest

  pub passes : ((r : G.Rule) → passes_all G E wide r (G.bodies r) ≡ true) → (r : G.Rule) (b : G.Value) (o : Option G.Token) (body : List (Symbol G.Class G.Rule)) → production G r b o ≡ Some body → passes_body G E wide r body ≡ true
  passes all r b o body p = ap (passes_body G E wide r) (sym (free_production G r b o body p)) ∙ picked r (G.bodies r) o (all r)

  pub emptying_of : (r : G.Rule) (body : List (Symbol G.Class G.Rule)) → passes_body G E wide r body ≡ true → all_empty E.null body ≡ true → (body ≡ []) × (E.null r ≡ true)
  emptying_of r body h e = let x = implied _ _ (both_left _ _ h) e in (empty_of body (both_left _ _ x), both_right (is_empty body) _ x)

  pub following_of : (r : G.Rule) (body : List (Symbol G.Class G.Rule)) → passes_body G E wide r body ≡ true → followed G E body ≡ true
  following_of r body h = both_right (ends_within G E wide r body) _ (both_right (implies (all_empty E.null body) (both (is_empty body) (E.null r))) _ h)

  pub closing_of : ((q r : G.Rule) (w : G.Token) → wide q r ≡ true → E.closes r w ≡ true → E.closes q w ≡ true) → (r : G.Rule) (body : List (Symbol G.Class G.Rule)) → passes_body G E wide r body ≡ true → (o : Option G.Token) → ends (E.closes r) o ≡ true → closes_all G E body o ≡ true
  closing_of sure r body h o e = go body (both_left (ends_within G E wide r body) (followed G E body) (both_right (implies (all_empty E.null body) (both (is_empty body) (E.null r))) _ h))
    where
      ends_too : (q : G.Rule) → wide q r ≡ true → (o : Option G.Token) → ends (E.closes r) o ≡ true → ends (E.closes q) o ≡ true
      ends_too q y None e = refl
      ends_too q y (Some w) e = sure q r w y e

      guarded : (b : Bool) (q : G.Rule) → implies b (wide q r) ≡ true → implies b (ends (E.closes q) o) ≡ true
      guarded true q y = ends_too q y o e
      guarded false q y = refl

      go : (p : List (Symbol G.Class G.Rule)) → ends_within G E wide r p ≡ true → closes_all G E p o ≡ true
      go [] y = refl
      go (mark c ∷ rest) y = go rest y
      go (rule q ∷ rest) y = both_of _ _ (guarded (all_empty E.null rest) q (both_left _ _ y)) (go rest (both_right (implies (all_empty E.null rest) (wide q r)) _ y))

-- ---- the first tokens

-- some body that is not empty begins with the token
abbrev pub some_starts : (G : Grammar) → List (List (Symbol G.Class G.Rule)) → G.Token → Bool
some_starts G [] w = false
some_starts G ([] ∷ more) w = some_starts G more w
some_starts G ((x ∷ body) ∷ more) w = cond (starts G (x ∷ body) (Some w)) true (some_starts G more w)

-- no two of the bodies that are not empty begin with the token, and only the last is empty
abbrev pub starts_apart : (G : Grammar) → List (List (Symbol G.Class G.Rule)) → G.Token → Bool
starts_apart G [] w = true
starts_apart G ([] ∷ []) w = true
starts_apart G ([] ∷ other ∷ more) w = false
starts_apart G ((x ∷ body) ∷ more) w = both (implies (starts G (x ∷ body) (Some w)) (cond (some_starts G more w) false true)) (starts_apart G more w)

-- The rule begins with the tokens with which its bodies begin, and the next token tells which of them is read.
abbrev pub tells : (G : Grammar) → G.Rule → G.Token → Bool
tells G r w = both (cond (G.begins r w) (some_starts G (G.bodies r) w) (cond (some_starts G (G.bodies r) w) false true)) (starts_apart G (G.bodies r) w)

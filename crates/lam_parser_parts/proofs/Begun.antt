-- Where the next token begins the symbols, a token that continues nothing stands behind it.
use Rattle.std.proofs.Common.{◌≡◌, ℕ, ◌<◌, Bool, true, false, cond, Option, Some, None, List, [], ◌∷◌, refl, sym, ap, ◌∙◌, arith}
use Rattle.lam_grammar_laws.specs.Grammar.{Symbol, Grammar, starts, pick, production, Reads, nothing, token, part}
use Rattle.lam_grammar_laws.specs.Examples.{Examples}
use Rattle.lam_grammar_laws.specs.Stopping.{unexpected, fits_next, Stops, wrong, later, inside, after, barred}
use Rattle.lam_grammar_laws.proofs.Laws.{grows, stands, free_production}
use Rattle.lam_grammar_laws.proofs.Spelling.{both_left, both_right}
use Rattle.lam_grammar_laws.proofs.Tests.{some_starts, starts_apart, tells}

-- the symbols are not empty, and can begin with the token
abbrev pub is_front : (G : Grammar) → List (Symbol G.Class G.Rule) → G.Token → Bool
is_front G [] w = false
is_front G (x ∷ rest) w = starts G (x ∷ rest) (Some w)

chosen : (b x y : Bool) → b ≡ true → cond b x y ≡ true → x ≡ true
chosen true x y e h = h
chosen false x y e h = cc

module _ (G : Grammar) where
  picked : (all : List (List (Symbol G.Class G.Rule))) (w : G.Token) → some_starts G all w ≡ true → starts_apart G all w ≡ true → is_front G (pick G all (Some w)) w ≡ true
  picked [] w h a = cc
  picked ([] ∷ []) w h a = cc
  picked ([] ∷ other ∷ more) w h a = cc
  picked ((x ∷ body) ∷ []) w h a = alone (starts G (x ∷ body) (Some w)) h
    where
      alone : (b : Bool) → cond b true false ≡ true → b ≡ true
      alone true e = refl
      alone false e = cc
  picked ((x ∷ body) ∷ other ∷ more) w h a = go (starts G (x ∷ body) (Some w)) refl h (picked (other ∷ more) w)
    where
      go : (b : Bool) → starts G (x ∷ body) (Some w) ≡ b → cond b true (some_starts G (other ∷ more) w) ≡ true → (some_starts G (other ∷ more) w ≡ true → starts_apart G (other ∷ more) w ≡ true → is_front G (pick G (other ∷ more) (Some w)) w ≡ true) → is_front G (cond b (x ∷ body) (pick G (other ∷ more) (Some w))) w ≡ true
      go true e k again = e
      go false e k again = again k (both_right _ _ a)

  module _ (told : (r : G.Rule) (w : G.Token) → tells G r w ≡ true) where
    -- the body by which a rule is read begins with each token with which the rule begins
    body_front : (r : G.Rule) (before : G.Value) (o : Option G.Token) (w : G.Token) (body : List (Symbol G.Class G.Rule)) → o ≡ Some w → G.begins r w ≡ true → production G r before o ≡ Some body → is_front G body w ≡ true
    body_front r before o w body e h p =
        let f : is_front G (pick G (G.bodies r) (Some w)) w ≡ true = picked (G.bodies r) w (chosen (G.begins r w) _ _ h (both_left _ _ (told r w))) (both_right _ _ (told r w)) in
        let q : pick G (G.bodies r) o ≡ body = free_production G r before o body p in
        ap (λ (x : List (Symbol G.Class G.Rule)). is_front G x w) (sym q ∙ ap (pick G (G.bodies r)) e) ∙ f

    reads_on : {cap : ℕ → ℕ} {look : ℕ → Option G.Token} {p : List (Symbol G.Class G.Rule)} {before : G.Value} {s i j t : ℕ} {vs : List G.Value} (w : G.Token) → look i ≡ Some w → is_front G p w ≡ true → Reads G cap look p before s i vs j t → i < j
    reads_on w e f nothing = cc
    reads_on w e f (token l g d h) = omega (arith, grows h)
    reads_on w e f (part {r = r} {body = body} {before = before} p h g) = omega (arith, reads_on w e (body_front r before _ w body e f p) h, grows g)

    pub begun : {E : Examples G} {cap : ℕ → ℕ} {look : ℕ → Option G.Token} {p : List (Symbol G.Class G.Rule)} {before : G.Value} {s i m : ℕ} {b : Bool} (w : G.Token) → ((r : G.Rule) → G.permits r before ≡ true) → look i ≡ Some w → is_front G p w ≡ true → Stops G E cap look p before s i (unexpected b m) → i < m
    begun w y e f (wrong {c = c} x) = let q = ap (fits_next G c) e in cc
    begun w y e f (later l g d h) = omega (arith, stands h)
    begun w y e f (inside {r = r} {body = body} {before = before} p a h) = begun w y e (body_front r before _ w body e f p) h
    begun w y e f (after {r = r} {body = body} {before = before} p g a h) = omega (arith, reads_on w e (body_front r before _ w body e f p) g, stands h)
    begun w y e f (barred {r = r} {before = before} p) = absurd (shut (G.permits r before) _ _ (y r) p)
      where
        shut : (c : Bool) (q : List (Symbol G.Class G.Rule)) (z : Option (List (Symbol G.Class G.Rule))) → c ≡ true → cond c (Some q) z ≡ None → ⊥
        shut true q z k p = cc
        shut false q z k p = cc

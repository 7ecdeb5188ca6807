-- Which body of a rule is read, by the next token.
use Rattle.std.proofs.Common.{◌≡◌, ℕ, ◌+◌, Bool, true, false, cond, Option, Some, None, List, [], ◌∷◌, refl, ap, ◌∙◌, subst}
use Rattle.lam_grammar_laws.specs.Grammar.{Symbol, mark, rule, Grammar, pick, starts, is_empty, production, enters, leaves, Reads, nothing, part}
use Rattle.lam_grammar_laws.specs.Stopping.{fits_next, begins_next}

module _ (G : Grammar) where
  mark_starts : (c : G.Class) (rest : List (Symbol G.Class G.Rule)) (o : Option G.Token) → starts G (mark c ∷ rest) o ≡ fits_next G c o
  mark_starts c rest None = refl
  mark_starts c rest (Some w) = refl

  rule_starts : (r : G.Rule) (rest : List (Symbol G.Class G.Rule)) (o : Option G.Token) → starts G (rule r ∷ rest) o ≡ begins_next G r o
  rule_starts r rest None = refl
  rule_starts r rest (Some w) = refl

  first_body : (body : List (Symbol G.Class G.Rule)) (more : List (List (Symbol G.Class G.Rule))) (o : Option G.Token) → starts G body o ≡ true → pick G (body ∷ more) o ≡ body
  first_body body [] o h = refl
  first_body body (other ∷ more) o h = ap (λ (b : Bool). cond b body (pick G (other ∷ more) o)) h

  next_body : (body other : List (Symbol G.Class G.Rule)) (more : List (List (Symbol G.Class G.Rule))) (o : Option G.Token) → starts G body o ≡ false → pick G (body ∷ other ∷ more) o ≡ pick G (other ∷ more) o
  next_body body other more o h = ap (λ (b : Bool). cond b body (pick G (other ∷ more) o)) h

  pub chosen : (q : G.Rule) (before : G.Value) (o : Option G.Token) {body : List (Symbol G.Class G.Rule)} → G.permits q before ≡ true → pick G (G.bodies q) o ≡ body → production G q before o ≡ Some body
  chosen q before o p e = ap (λ (b : Bool). cond b (Some (pick G (G.bodies q) o)) (cond (is_empty (pick G (G.bodies q) o)) (Some []) None)) p ∙ ap Some e

  -- The first body begins with the token.
  pub picks_mark : (c : G.Class) (rest : List (Symbol G.Class G.Rule)) (more : List (List (Symbol G.Class G.Rule))) (o : Option G.Token) → fits_next G c o ≡ true → pick G ((mark c ∷ rest) ∷ more) o ≡ mark c ∷ rest
  picks_mark c rest more o h = first_body (mark c ∷ rest) more o (mark_starts c rest o ∙ h)

  pub picks_rule : (r : G.Rule) (rest : List (Symbol G.Class G.Rule)) (more : List (List (Symbol G.Class G.Rule))) (o : Option G.Token) → begins_next G r o ≡ true → pick G ((rule r ∷ rest) ∷ more) o ≡ rule r ∷ rest
  picks_rule r rest more o h = first_body (rule r ∷ rest) more o (rule_starts r rest o ∙ h)

  -- It does not.
  pub picks_past_mark : (c : G.Class) (rest other : List (Symbol G.Class G.Rule)) (more : List (List (Symbol G.Class G.Rule))) (o : Option G.Token) → fits_next G c o ≡ false → pick G ((mark c ∷ rest) ∷ other ∷ more) o ≡ pick G (other ∷ more) o
  picks_past_mark c rest other more o h = next_body (mark c ∷ rest) other more o (mark_starts c rest o ∙ h)

  pub picks_past_rule : (r : G.Rule) (rest other : List (Symbol G.Class G.Rule)) (more : List (List (Symbol G.Class G.Rule))) (o : Option G.Token) → begins_next G r o ≡ false → pick G ((rule r ∷ rest) ∷ other ∷ more) o ≡ pick G (other ∷ more) o
  picks_past_rule r rest other more o h = next_body (rule r ∷ rest) other more o (rule_starts r rest o ∙ h)

  -- a rule that is empty
  pub empty_read : {cap : ℕ → ℕ} {look : ℕ → Option G.Token} {u k : ℕ} (q : G.Rule) → G.counts q ≡ false → (before : G.Value) → production G q before (look k) ≡ Some [] → Reads G cap look (rule q ∷ []) before u k (G.act q [] ∷ []) k u
  empty_read {cap} {look} {u} {k} q c before p =
      let e : leaves G q u (enters G q u) ≡ u = ap (λ (b : Bool). cond b u (cond b (u + 1) u)) c in
      subst (λ n. Reads G cap look (rule q ∷ []) before u k (G.act q [] ∷ []) k n) e (part p nothing nothing)

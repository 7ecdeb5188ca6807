-- What is read with some bound of the depth sum is read within the limit, or passes it at some token.
use Rattle.std.proofs.Common.{◌≡◌, ℕ, ◌⊎◌, inl, inr, true, Option, List, arith}
use Rattle.std.proofs.Math.Decide.{dec_le}
use Rattle.std.proofs.Math.Logic.{dite}
use Rattle.lam_grammar_laws.specs.Grammar.{Symbol, Grammar, Reads}
use Rattle.lam_grammar_laws.specs.Grammar as read
use Rattle.lam_grammar_laws.specs.Texts.{limited, Spells, IsTooDeep}
use Rattle.lam_grammar_laws.specs.Examples.{Examples, followed}
use Rattle.lam_grammar_laws.specs.Stopping.{too_deep, Stops, deep, later, inside, after}
use Rattle.lam_grammar_laws.proofs.Sound.{Sound}
use Rattle.lam_grammar_laws.proofs.Theorem.{is_too_deep}

abbrev Within : (G : Grammar) → Examples G → (ℕ → Option G.Token) → List (Symbol G.Class G.Rule) → G.Value → ℕ → ℕ → List G.Value → ℕ → ℕ → Type 0
Within G E look p before s i vs j t = Reads G (limited G) look p before s i vs j t ⊎ ((m : ℕ) × Stops G E (limited G) look p before s i (too_deep m))

within : {G : Grammar} (E : Examples G) {cap : ℕ → ℕ} {look : ℕ → Option G.Token} {p : List (Symbol G.Class G.Rule)} {before : G.Value} {s i j t : ℕ} {vs : List G.Value} → Reads G cap look p before s i vs j t → Within G E look p before s i vs j t
within E read.nothing = inl read.nothing
within {G} E (read.token {s = s} {i = i} l f d h) = dite (dec_le s G.limit)
    (λ c. elim (within E h) [ inl x ↦ inl (read.token l f c x) | inr y ↦ inr (y.0, later l f c y.1) ])
    (λ c. inr (i, deep l f (omega (arith, c))))
within E (read.part p h g) = elim (within E h) [
  | inl x ↦ elim (within E g) [ inl y ↦ inl (read.part p x y) | inr y ↦ inr (y.0, after p x tt y.1) ]
  | inr y ↦ inr (y.0, inside p tt y.1)
]

pub read_or_deep : (G : Grammar) (E : Examples G) (S : Sound G E) (top : List (Symbol G.Class G.Rule)) (none : G.Value) (ts : List G.Token) (vs : List G.Value) (cap : ℕ → ℕ) → followed G E top ≡ true → Spells G cap top none ts vs → Spells G (limited G) top none ts vs ⊎ ((m : ℕ) × IsTooDeep G top none ts m)
read_or_deep G E S top none ts vs cap f s = elim (within E s.reads) [
  | inl x ↦ inl (record { end = s.end; sum = s.sum; reads = x; whole = s.whole })
  | inr y ↦ inr (y.0, is_too_deep G E S top none ts y.0 f y.1)
]

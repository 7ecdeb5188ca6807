-- What is read where the depth sum has no limit. It is read within the limit, or stops at a token that is too deep.
use Rattle.std.proofs.Common.{◌≡◌, ℕ, ◌+◌, ◌⊎◌, inl, inr, true, Option, Some, None, List, [], ◌∷◌, slice_get, arith}
use Rattle.std.proofs.Math.Decide.{dec_le}
use Rattle.std.proofs.Math.Logic.{dite}
use Rattle.lam_grammar_laws.specs.Grammar.{Symbol, mark, rule, Grammar, production, enters, leaves, Reads}
use Rattle.lam_grammar_laws.specs.Grammar as read
use Rattle.lam_grammar_laws.specs.Texts.{limited, Spells, IsTooDeep}
use Rattle.lam_grammar_laws.specs.Examples.{Examples, followed}
use Rattle.lam_grammar_laws.specs.Stopping.{too_deep, Stops, deep, later, inside, after}
use Rattle.lam_grammar_laws.proofs.Sound.{Sound}
use Rattle.lam_grammar_laws.proofs.Theorem.{is_too_deep}

-- `Spans G look p before i vs j`: the tokens from i to before j are of the symbols p, which mean vs, whatever the sum.
pub data Spans (G : Grammar) (look : ℕ → Option G.Token) : List (Symbol G.Class G.Rule) → G.Value → ℕ → List G.Value → ℕ → Type 0 where
  nothing : {before : G.Value} {i : ℕ} → Spans G look [] before i [] i
  token : {c : G.Class} {rest : List (Symbol G.Class G.Rule)} {before : G.Value} {i j : ℕ} {w : G.Token} {vs : List G.Value} → look i ≡ Some w → G.fits c w ≡ true → Spans G look rest (G.leaf w) (i + 1) vs j → Spans G look (mark c ∷ rest) before i (G.leaf w ∷ vs) j
  part : {r : G.Rule} {body rest : List (Symbol G.Class G.Rule)} {before : G.Value} {i k j : ℕ} {us vs : List G.Value} → production G r before (look i) ≡ Some body → Spans G look body before i us k → Spans G look rest (G.act r us) k vs j → Spans G look (rule r ∷ rest) before i (G.act r us ∷ vs) j

pub joins : {G : Grammar} {look : ℕ → Option G.Token} {r : G.Rule} {rest : List (Symbol G.Class G.Rule)} {before v : G.Value} {i k j : ℕ} {vs : List G.Value} → Spans G look (rule r ∷ []) before i (v ∷ []) k → Spans G look rest v k vs j → Spans G look (rule r ∷ rest) before i (v ∷ vs) j
joins (part p h nothing) g = part p h g

-- with a sum at the start
abbrev Within : (G : Grammar) → Examples G → (ℕ → Option G.Token) → List (Symbol G.Class G.Rule) → G.Value → ℕ → ℕ → List G.Value → ℕ → Type 0
Within G E look p before s i vs j = ((t : ℕ) × Reads G (limited G) look p before s i vs j t) ⊎ ((m : ℕ) × Stops G E (limited G) look p before s i (too_deep m))

within : {G : Grammar} (E : Examples G) {look : ℕ → Option G.Token} {p : List (Symbol G.Class G.Rule)} {before : G.Value} {i j : ℕ} {vs : List G.Value} → Spans G look p before i vs j → (s : ℕ) → Within G E look p before s i vs j
within E nothing s = inl (s, read.nothing)
within {G} E (token {c = c} {i = i} l f h) s = dite (dec_le s G.limit)
    (λ d. elim (within E h (s + G.weight c)) [ inl x ↦ inl (x.0, read.token l f d x.1) | inr y ↦ inr (y.0, later l f d y.1) ])
    (λ d. inr (i, deep l f (omega (arith, d))))
within {G} E (part {r = r} p h g) s = elim (within E h (enters G r s)) [
  | inl x ↦ elim (within E g (leaves G r s x.0)) [ inl y ↦ inl (y.0, read.part p x.1 y.1) | inr y ↦ inr (y.0, after p x.1 tt y.1) ]
  | inr y ↦ inr (y.0, inside p tt y.1)
]

-- Symbols that are read to the end of the tokens are spelt, where no token is too deep.
pub spelt : (G : Grammar) (E : Examples G) (S : Sound G E) (top : List (Symbol G.Class G.Rule)) (none : G.Value) (ts : List G.Token) (vs : List G.Value) (end : ℕ) → followed G E top ≡ true → Spans G (slice_get ts) top none 0 vs end → slice_get ts end ≡ None → ((m : ℕ) → IsTooDeep G top none ts m → ⊥) → Spells G (limited G) top none ts vs
spelt G E S top none ts vs end f h w n = elim (within E h 0) [
  | inl x ↦ record { end = end; sum = x.0; reads = x.1; whole = w }
  | inr y ↦ absurd (n y.0 (is_too_deep G E S top none ts y.0 f y.1))
]

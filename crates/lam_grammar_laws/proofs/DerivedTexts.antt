-- The texts that are derived from a table are those that are read by it.
use Rattle.std.proofs.Common.{◌≡◌, ℕ, ◌+◌, ◌⊎◌, true, false, None, List, length, slice_get, refl, ap, ◌∙◌, subst, arith, ◌≤◌}
use Rattle.std.proofs.lemmas.Option.{slice_get_past}
use Rattle.lam_grammar_laws.specs.Grammar.{Symbol, Grammar}
use Rattle.lam_grammar_laws.specs.Texts.{limited, capped, Spells, Continues, IsUnexpected, IsTooDeep}
use Rattle.lam_grammar_laws.specs.Examples.{Examples, followed}
use Rattle.lam_grammar_laws.proofs.Laws.{once}
use Rattle.lam_grammar_laws.proofs.Sound.{Sound}
use Rattle.lam_grammar_laws.proofs.Completion.{high}
use Rattle.lam_grammar_laws.specs.Deriving.{Derives, Extends}
use Rattle.lam_grammar_laws.specs.Follow.{Follows, followed_by}
use Rattle.lam_grammar_laws.proofs.Passes.{Passes}
use Rattle.lam_grammar_laws.proofs.Texts.{GoesOn, has_all, same_text}
use Rattle.lam_grammar_laws.proofs.Deriving.{derived}
use Rattle.lam_grammar_laws.proofs.Reading.{reads_of}
use Rattle.lam_grammar_laws.proofs.Depth.{read_or_deep}

goes_on : {A : Type 0} (ts : List A) → GoesOn (slice_get ts) 0 ts
goes_on ts j = let q : 0 + j ≡ j = omega arith in ap (slice_get ts) q

module _ (G : Grammar) (F : Follows G) (P : Passes G F) (top : List (Symbol G.Class G.Rule)) (none : G.Value) where
  -- What is read, with whatever bound of the depth sum, is derived.
  pub is_derived : (ts : List G.Token) (vs : List G.Value) (cap : ℕ → ℕ) → Spells G cap top none ts vs → Derives G top none ts vs
  is_derived ts vs cap s =
      let x = derived G F P s.reads in
      let q = same_text (slice_get ts) 0 x.text ts (goes_on ts) x.there (ap (slice_get ts) x.long ∙ s.whole) in
      subst (λ (t : List G.Token). Derives G top none t vs) q x.derives

  -- What is derived is read, with each bound of the depth sum that is no less than some number.
  pub is_read : ((w : G.Token) → followed_by G F top false w ≡ true) → (ts : List G.Token) (vs : List G.Value) → Derives G top none ts vs → (need : ℕ) × ((cap : ℕ → ℕ) → ((m : ℕ) → need ≤ cap m) → Spells G cap top none ts vs)
  is_read f ts vs d =
      let past : slice_get ts (length ts) ≡ None = slice_get_past ts (length ts) (omega arith) in
      let x = reads_of G F P d (slice_get ts) 0 0 (length ts) (has_all (slice_get ts) 0 ts (goes_on ts)) (omega arith) (λ w. false) (λ w l. cc) f in
      (x.need, λ cap b. record { end = length ts; sum = x.t; reads = x.reads cap b; whole = past })

  pub is_read_at_a_bound : ((w : G.Token) → followed_by G F top false w ≡ true) → (ts : List G.Token) (vs : List G.Value) → Derives G top none ts vs → (bound : ℕ) × Spells G (λ i. bound) top none ts vs
  is_read_at_a_bound f ts vs d = let x = is_read f ts vs d in (x.0, x.1 (λ i. x.0) (λ m. omega arith))

  -- Within the limit, or past it at some token.
  pub is_read_or_deep : (E : Examples G) → Sound G E → followed G E top ≡ true → ((w : G.Token) → followed_by G F top false w ≡ true) → (ts : List G.Token) (vs : List G.Value) → Derives G top none ts vs → Spells G (limited G) top none ts vs ⊎ ((m : ℕ) × IsTooDeep G top none ts m)
  is_read_or_deep E S g f ts vs d =
      let x = is_read_at_a_bound f ts vs d in
      read_or_deep G E S top none ts vs (λ i. x.0) g x.1

  -- A text means one list of values.
  pub derived_once : ((w : G.Token) → followed_by G F top false w ≡ true) → (ts : List G.Token) (vs vs' : List G.Value) → Derives G top none ts vs → Derives G top none ts vs' → vs ≡ vs'
  derived_once f ts vs vs' a b = ap (λ (x : List G.Value × ℕ × ℕ). x.0) (once (is_read_at_a_bound f ts vs a).1.reads (λ j h. refl) (is_read_at_a_bound f ts vs' b).1.reads)

  -- Where some text goes on, a derived one does, and the other way round.
  pub extends_of : (ts : List G.Token) (n d : ℕ) → Continues G top none ts n d → Extends G top none ts n
  extends_of ts n d c = record { others = c.others; same = c.same; vs = c.vs; derives = is_derived c.others c.vs (capped G d c.bound) c.spells }

  pub continues_of : ((w : G.Token) → followed_by G F top false w ≡ true) → (ts : List G.Token) (n : ℕ) → Extends G top none ts n → Continues G top none ts n 0
  continues_of f ts n e =
      let x = is_read f e.others e.vs e.derives in
      record { others = e.others; same = e.same; bound = x.0; vs = e.vs; spells = x.1 (capped G 0 x.0) (λ m. high G 0 x.0 m (omega arith)) }

  -- The first wrong token is the first with which no derived text goes on.
  pub underived : ((w : G.Token) → followed_by G F top false w ≡ true) → (ts : List G.Token) (n : ℕ) → IsUnexpected G top none ts n → Extends G top none ts n × (Extends G top none ts (n + 1) → ⊥)
  underived f ts n h = (extends_of ts n n h.0, λ e. h.1 (continues_of f ts (n + 1) e))

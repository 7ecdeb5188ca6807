-- What tokens mean by a grammar, computed.
use Rattle.std.proofs.Common.{◌≡◌, ℕ, zero, suc, ◌+◌, ◌&&◌, if◌then◌else◌, nat_le, List, [], ◌∷◌, Option, Some, None, option_and_then, refl, subst, leb-true}
use Rattle.std.proofs.lemmas.Bool.{and_parts}
use Rattle.lam_grammar_laws.specs.Grammar.{Symbol, mark, rule, Grammar, production, enters, leaves, Reads, nothing, token, part}
use Rattle.lam_grammar_laws.specs.Texts.{limited}
use Rattle.lam_main_laws.proofs.Given.{some_same, if_true, then_some}

-- what was read, where it ends, and the sum there
pub record Found (Value : Type 0) : Type 0 where
  pub vs : List Value
  pub end : ℕ
  pub sum : ℕ

-- with a value before
abbrev with_value : {Value : Type 0} → Value → Found Value → Option (Found Value)
with_value v f = Some (record { vs = v ∷ f.vs; end = f.end; sum = f.sum })

-- a reading of symbols after a value, with a sum, from a place on
abbrev Parse : Grammar → Type 0
Parse G = List (Symbol G.Class G.Rule) → G.Value → ℕ → ℕ → Option (Found G.Value)

module _ (G : Grammar) (look : ℕ → Option G.Token) where
  abbrev by_token : Parse G → G.Class → List (Symbol G.Class G.Rule) → ℕ → ℕ → Option G.Token → Option (Found G.Value)
  by_token more c rest s i None = None
  by_token more c rest s i (Some w) = if G.fits c w && nat_le s G.limit then option_and_then (with_value (G.leaf w)) (more rest (G.leaf w) (s + G.weight c) (i + 1)) else None

  abbrev by_body : Parse G → G.Rule → List (Symbol G.Class G.Rule) → G.Value → ℕ → ℕ → Option (List (Symbol G.Class G.Rule)) → Option (Found G.Value)
  by_body more r rest before s i None = None
  by_body more r rest before s i (Some body) = option_and_then (λ f. option_and_then (with_value (G.act r f.vs)) (more rest (G.act r f.vs) (leaves G r s f.sum) f.end)) (more body before (enters G r s) i)

  -- the number bounds the symbols
  abbrev pub read_by : ℕ → Parse G
  read_by zero p before s i = None
  read_by (suc n) [] before s i = Some (record { vs = []; end = i; sum = s })
  read_by (suc n) (mark c ∷ rest) before s i = by_token (read_by n) c rest s i (look i)
  read_by (suc n) (rule r ∷ rest) before s i = by_body (read_by n) r rest before s i (production G r before (look i))

-- ---- the grammar reads it

module _ (G : Grammar) (look : ℕ → Option G.Token) where
  abbrev IsRead : List (Symbol G.Class G.Rule) → G.Value → ℕ → ℕ → Found G.Value → Type 0
  IsRead p before s i f = Reads G (limited G) look p before s i f.vs f.end f.sum

  module _ (more : Parse G) (is : (p : List (Symbol G.Class G.Rule)) (before : G.Value) (s i : ℕ) (f : Found G.Value) → more p before s i ≡ Some f → IsRead p before s i f) where
    of_token : (c : G.Class) (rest : List (Symbol G.Class G.Rule)) (before : G.Value) (s i : ℕ) (f : Found G.Value) (o : Option G.Token) → look i ≡ o → by_token G look more c rest s i o ≡ Some f → IsRead (mark c ∷ rest) before s i f
    of_token c rest before s i f None l e = absurd (cc)
    of_token c rest before s i f (Some w) l e =
        let p = if_true (G.fits c w && nat_le s G.limit) _ f e in
        let q = and_parts (G.fits c w) (nat_le s G.limit) p.0 in
        let r = then_some (with_value (G.leaf w)) (more rest (G.leaf w) (s + G.weight c) (i + 1)) f p.1 in
        subst (λ (g : Found G.Value). IsRead (mark c ∷ rest) before s i g) (some_same r.2) (token l q.0 (leb-true _ _ q.1) (is rest (G.leaf w) (s + G.weight c) (i + 1) r.0 r.1))

    of_body : (r : G.Rule) (rest : List (Symbol G.Class G.Rule)) (before : G.Value) (s i : ℕ) (f : Found G.Value) (o : Option (List (Symbol G.Class G.Rule))) → production G r before (look i) ≡ o → by_body G look more r rest before s i o ≡ Some f → IsRead (rule r ∷ rest) before s i f
    of_body r rest before s i f None l e = absurd (cc)
    of_body r rest before s i f (Some body) l e =
        let a = then_some _ (more body before (enters G r s) i) f e in
        let b = then_some (with_value (G.act r a.0.vs)) (more rest (G.act r a.0.vs) (leaves G r s a.0.sum) a.0.end) f a.2 in
        let it : Found G.Value = record { vs = G.act r a.0.vs ∷ b.0.vs; end = b.0.end; sum = b.0.sum } in
        subst (λ (g : Found G.Value). IsRead (rule r ∷ rest) before s i g) {x = it} (some_same b.2) (part l (is body before (enters G r s) i a.0 a.1) (is rest (G.act r a.0.vs) (leaves G r s a.0.sum) a.0.end b.0 b.1))

  pub read_as : (n : ℕ) (p : List (Symbol G.Class G.Rule)) (before : G.Value) (s i : ℕ) (f : Found G.Value) → read_by G look n p before s i ≡ Some f → IsRead p before s i f
  read_as zero p before s i f e = absurd (cc)
  read_as (suc n) [] before s i f e = subst (λ (g : Found G.Value). IsRead [] before s i g) (some_same e) nothing
  read_as (suc n) (mark c ∷ rest) before s i f e = of_token (read_by G look n) (λ q v t j g. read_as n q v t j g) c rest before s i f (look i) refl e
  read_as (suc n) (rule r ∷ rest) before s i f e = of_body (read_by G look n) (λ q v t j g. read_as n q v t j g) r rest before s i f (production G r before (look i)) refl e

-- Which body of a rule is read before a token.
use Rattle.std.proofs.Common.{◌≡◌, ◌⊎◌, inl, inr, Bool, true, false, cond, Option, Some, None, List, [], ◌∷◌, refl, ap, ◌∙◌}
use Rattle.lam_grammar_laws.specs.Grammar.{Symbol, mark, rule, Grammar, starts, pick, is_empty}
use Rattle.lam_grammar_laws.specs.Examples.{either, implies}
use Rattle.lam_grammar_laws.proofs.Tests.{some_starts, starts_apart, tells}
use Rattle.lam_grammar_laws.proofs.Spelling.{both_left, both_right}
use Rattle.lam_grammar_laws.specs.Deriving.{IsOneOf, first, later}
use Rattle.lam_grammar_laws.specs.Follow.{Follows, opens, well_opened}

-- ---- truth values

pub is_not : (b : Bool) → cond b false true ≡ true → b ≡ false
is_not true h = cc
is_not false h = refl

pub either_left : (a b : Bool) → a ≡ true → either a b ≡ true
either_left true b h = refl
either_left false b h = cc

pub either_right : (a b : Bool) → b ≡ true → either a b ≡ true
either_right true b h = refl
either_right false b h = h

chosen_or : (b rest : Bool) → rest ≡ true → cond b true rest ≡ true
chosen_or true rest h = refl
chosen_or false rest h = h

told_begins : (b s : Bool) → cond b s (cond s false true) ≡ true → s ≡ true → b ≡ true
told_begins true s h e = refl
told_begins false true h e = cc
told_begins false false h e = cc

told_starts : (b s : Bool) → cond b s (cond s false true) ≡ true → b ≡ false → s ≡ false
told_starts true s h e = cc
told_starts false true h e = cc
told_starts false false h e = refl

-- neither of two
neither_first : (b rest : Bool) → cond b true rest ≡ false → b ≡ false
neither_first true rest h = cc
neither_first false rest h = refl

neither_second : (b rest : Bool) → cond b true rest ≡ false → rest ≡ false
neither_second true rest h = cc
neither_second false rest h = h

-- where two would begin alike
shut : (b s : Bool) → implies b (cond s false true) ≡ true → s ≡ true → b ≡ false
shut true true h e = cc
shut true false h e = cc
shut false s h e = refl

module _ (G : Grammar) (F : Follows G) where
  -- What is one of the bodies is empty, where the rule may be, or begins with a token or a rule that is never empty.
  pub shape : {n : Bool} {body : List (Symbol G.Class G.Rule)} (all : List (List (Symbol G.Class G.Rule))) → IsOneOf body all → well_opened G F n all ≡ true → ((body ≡ []) × (n ≡ true)) ⊎ (opens G F body ≡ true)
  shape [] a h = elim a [ ]
  shape ([] ∷ []) first h = inl (refl, h)
  shape ([] ∷ []) (later a) h = elim a [ ]
  shape ([] ∷ other ∷ more) a h = cc
  shape ((x ∷ body) ∷ []) first h = inr (both_left _ _ h)
  shape ((x ∷ body) ∷ []) (later a) h = elim a [ ]
  shape ((x ∷ body) ∷ other ∷ more) first h = inr (both_left _ _ h)
  shape ((x ∷ body) ∷ other ∷ more) (later a) h = shape (other ∷ more) a (both_right (opens G F (x ∷ body)) _ h)

  pub shape_open : {body : List (Symbol G.Class G.Rule)} (all : List (List (Symbol G.Class G.Rule))) (n : Bool) → IsOneOf body all → well_opened G F n all ≡ true → n ≡ false → opens G F body ≡ true
  shape_open all n a h e = elim (shape all a h) [ inl x ↦ absurd (never x.1) | inr y ↦ y ]
    where
      never : n ≡ true → ⊥
      never t = cc

  -- ---- what begins with the token

  pub some_start : {body : List (Symbol G.Class G.Rule)} {all : List (List (Symbol G.Class G.Rule))} (w : G.Token) → IsOneOf body all → opens G F body ≡ true → starts G body (Some w) ≡ true → some_starts G all w ≡ true
  some_start {body = []} w first o s = cc
  some_start {body = x ∷ body} w (first {xs}) o s = ap (λ (b : Bool). cond b true (some_starts G xs w)) s
  some_start w (later {y = []} a) o s = some_start w a o s
  some_start w (later {y = x ∷ body} a) o s = chosen_or (starts G (x ∷ body) (Some w)) _ (some_start w a o s)

  pub begins_of : {body : List (Symbol G.Class G.Rule)} (r : G.Rule) (w : G.Token) → tells G r w ≡ true → IsOneOf body (G.bodies r) → opens G F body ≡ true → starts G body (Some w) ≡ true → G.begins r w ≡ true
  begins_of r w t a o s = told_begins (G.begins r w) (some_starts G (G.bodies r) w) (both_left _ _ t) (some_start w a o s)

  pub none_starts : (r : G.Rule) (w : G.Token) → tells G r w ≡ true → G.begins r w ≡ false → some_starts G (G.bodies r) w ≡ false
  none_starts r w t e = told_starts (G.begins r w) (some_starts G (G.bodies r) w) (both_left _ _ t) e

  -- ---- the body that is picked

  pub picks : {body : List (Symbol G.Class G.Rule)} (all : List (List (Symbol G.Class G.Rule))) (w : G.Token) → IsOneOf body all → opens G F body ≡ true → starts G body (Some w) ≡ true → starts_apart G all w ≡ true → pick G all (Some w) ≡ body
  picks [] w a o s h = elim a [ ]
  picks (body ∷ []) w first o s h = refl
  picks (body ∷ []) w (later a) o s h = elim a [ ]
  picks (body ∷ other ∷ more) w first o s h = ap (λ (b : Bool). cond b body (pick G (other ∷ more) (Some w))) s
  picks ([] ∷ other ∷ more) w (later a) o s h = cc
  picks ((x ∷ y) ∷ other ∷ more) w (later a) o s h =
      let e : starts G (x ∷ y) (Some w) ≡ false = shut _ _ (both_left _ _ h) (some_start w a o s) in
      ap (λ (b : Bool). cond b (x ∷ y) (pick G (other ∷ more) (Some w))) e ∙ picks (other ∷ more) w a o s (both_right (implies (starts G (x ∷ y) (Some w)) (cond (some_starts G (other ∷ more) w) false true)) _ h)

  -- no body begins with the next token
  abbrev pub Quiet : List (List (Symbol G.Class G.Rule)) → Option G.Token → Type 0
  Quiet all None = Unit {0}
  Quiet all (Some w) = some_starts G all w ≡ false

  pub quiet_at : (all : List (List (Symbol G.Class G.Rule))) (o : Option G.Token) → ((w : G.Token) → o ≡ Some w → some_starts G all w ≡ false) → Quiet all o
  quiet_at all None f = tt
  quiet_at all (Some w) f = f w refl

  silent : (x : Symbol G.Class G.Rule) (body : List (Symbol G.Class G.Rule)) (more : List (List (Symbol G.Class G.Rule))) (o : Option G.Token) → Quiet ((x ∷ body) ∷ more) o → starts G (x ∷ body) o ≡ false
  silent (mark c) body more None q = refl
  silent (rule r) body more None q = refl
  silent x body more (Some w) q = neither_first _ _ q

  quiet_rest : (x : Symbol G.Class G.Rule) (body : List (Symbol G.Class G.Rule)) (more : List (List (Symbol G.Class G.Rule))) (o : Option G.Token) → Quiet ((x ∷ body) ∷ more) o → Quiet more o
  quiet_rest x body more None q = tt
  quiet_rest x body more (Some w) q = neither_second (starts G (x ∷ body) (Some w)) _ q

  pub picks_empty : (n : Bool) (all : List (List (Symbol G.Class G.Rule))) (o : Option G.Token) → IsOneOf [] all → well_opened G F n all ≡ true → Quiet all o → pick G all o ≡ []
  picks_empty n [] o a h q = elim a [ ]
  picks_empty n ([] ∷ []) o a h q = refl
  picks_empty n ([] ∷ other ∷ more) o a h q = cc
  picks_empty n ((x ∷ body) ∷ []) o (later a) h q = elim a [ ]
  picks_empty n ((x ∷ body) ∷ other ∷ more) o (later a) h q =
      ap (λ (b : Bool). cond b (x ∷ body) (pick G (other ∷ more) o)) (silent x body (other ∷ more) o q) ∙ picks_empty n (other ∷ more) o a (both_right (opens G F (x ∷ body)) _ h) (quiet_rest x body (other ∷ more) o q)

  -- ---- and back

  either_one : {all : List (List (Symbol G.Class G.Rule))} {body picked : List (Symbol G.Class G.Rule)} (b : Bool) → IsOneOf picked all → IsOneOf (cond b body picked) (body ∷ all)
  either_one true a = first
  either_one false a = later a

  -- what is picked is one of the bodies
  pub picked_one : (n : Bool) (all : List (List (Symbol G.Class G.Rule))) (o : Option G.Token) → well_opened G F n all ≡ true → IsOneOf (pick G all o) all
  picked_one n [] o h = cc
  picked_one n (body ∷ []) o h = first
  picked_one n ([] ∷ other ∷ more) o h = cc
  picked_one n ((x ∷ body) ∷ other ∷ more) o h = either_one (starts G (x ∷ body) o) (picked_one n (other ∷ more) o (both_right (opens G F (x ∷ body)) _ h))

pub emptied : {A : Type 0} (b : Bool) (q : List A) → q ≡ [] → cond b (Some q) (cond (is_empty q) (Some []) None) ≡ Some []
emptied true q e = ap Some e
emptied false [] e = refl
emptied false (x ∷ q) e = cc

pub may_stand : {A : Type 0} (b : Bool) (q body : List A) → cond b (Some q) (cond (is_empty q) (Some []) None) ≡ Some body → (b ≡ true) ⊎ (body ≡ [])
may_stand true q body e = inl refl
may_stand false [] body e = inr cc
may_stand false (x ∷ q) body e = cc

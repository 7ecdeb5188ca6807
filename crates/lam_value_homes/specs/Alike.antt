-- When two maps have the same at their keys, or at those that are seen at a label.
use Rattle.std.specs.Prelude.{◌≡◌, Bool, true, false, ◌&&◌, refl, IsTrue, ⊤, List, [], ◌∷◌, Option, Some, None}
use Rattle.flow_labels.specs.declared.Label.{Label}
use Rattle.flow_labels.specs.Flow.{flows}

-- whether an observer sees a label; without an observer all are seen
abbrev pub is_shown : Option Label → Label → Bool
is_shown None l = true
is_shown (Some o) l = flows l o

-- nothing on both sides, or the same on both
abbrev pub AreAlike : {X : Type 0} → (X → X → Type 0) → Option X → Option X → Type 0
AreAlike IsSame None None = ⊤
AreAlike IsSame None (Some y) = ⊥
AreAlike IsSame (Some x) None = ⊥
AreAlike IsSame (Some x) (Some y) = IsSame x y

-- the same at each key that passes
abbrev pub AreAlikeWhere : {K X : Type 0} → (K → Bool) → (X → X → Type 0) → (K → Option X) → (K → Option X) → Type 0
AreAlikeWhere {K} shown IsSame f g = (q : K) → IsTrue (shown q) → AreAlike IsSame (f q) (g q)

-- each of these entries whose key passes is found
abbrev pub HasAlike : {K X : Type 0} → (K → Bool) → (X → X → Type 0) → (K → Option X) → List (K × X) → Type 0
HasAlike shown IsSame f [] = ⊤
HasAlike shown IsSame f (e ∷ es) = (IsTrue (shown e.0) → AreAlike IsSame (Some e.1) (f e.0)) × HasAlike shown IsSame f es

-- what holds of all three holds of the second
pub middle : (a b c : Bool) → (a && (b && c)) ≡ true → b ≡ true
middle true true c e = refl
middle true false c e = e
middle false true c e = refl
middle false false c e = e

-- and what holds of both of the second
pub second : (a b : Bool) → (a && b) ≡ true → b ≡ true
second true b e = e
second false b e = cc

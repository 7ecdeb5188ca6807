-- An option that is some value, of which a fact holds.
use Rattle.std.proofs.Common.{◌≡◌, Option, Some, None, refl, ap, ◌∙◌}
use Rattle.lam_resolve_laws.specs.Resolved.{then_some}

pub record Has {A : Type 0} (o : Option A) (P : A → Type 0) : Type 0 where
  pub it : A
  pub is : o ≡ Some it
  pub holds : P it

pub done : {A : Type 0} {P : A → Type 0} (a : A) → P a → Has (Some a) P
done a h = record { it = a; is = refl; holds = h }

pub known : {A : Type 0} {P : A → Type 0} {o : Option A} (a : A) → o ≡ Some a → P a → Has o P
known a e h = record { it = a; is = e; holds = h }

-- a value, and then one from it
pub next : {A B : Type 0} {o : Option A} {f : A → Option B} {P : A → Type 0} {Q : B → Type 0} → Has o P → ((a : A) → P a → Has (f a) Q) → Has (then_some o f) Q
unfolding then_some
next {A} {B} {o} {f} {P} {Q} h k =
    let r = k h.it h.holds in
    record { it = r.it; is = ap (λ (o : Option A). then_some o f) h.is ∙ r.is; holds = r.holds }

pub from : {A B : Type 0} {o : Option A} {Q : B → Type 0} (f : A → Option B) (a : A) → o ≡ Some a → Has (f a) Q → Has (then_some o f) Q
unfolding then_some
from {A} {B} {o} {Q} f a e h = record { it = h.it; is = ap (λ (o : Option A). then_some o f) e ∙ h.is; holds = h.holds }

pub with_is : {A : Type 0} {o : Option A} {P : A → Type 0} → Has o P → Has o (λ a. P a × (o ≡ Some a))
with_is h = record { it = h.it; is = h.is; holds = (h.holds, h.is) }

pub weaker : {A : Type 0} {o : Option A} {P Q : A → Type 0} → Has o P → ((a : A) → P a → Q a) → Has o Q
weaker h k = record { it = h.it; is = h.is; holds = k h.it h.holds }

-- back from an equation
pub record Back {A B : Type 0} (o : Option A) (go : A → Option B) (b : B) : Type 0 where
  pub it : A
  pub first : o ≡ Some it
  pub next : go it ≡ Some b

pub back : {A B : Type 0} (o : Option A) (go : A → Option B) (b : B) → then_some o go ≡ Some b → Back o go b
unfolding then_some
back None go b e = absurd cc
back (Some a) go b e = record { it = a; first = refl; next = e }

pub some_is : {A : Type 0} (a b : A) → ◌≡◌ {A = Option A} (Some a) (Some b) → a ≡ b
some_is a b e = cc

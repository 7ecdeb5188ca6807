-- What stands behind an option that has a value.
use Rattle.std.proofs.Common.{◌≡◌, true, false, Bool, if◌then◌else◌, Option, Some, None, option_and_then, refl}

pub some_same : {A : Type 0} {x y : A} → Some x ≡ Some y → x ≡ y
some_same e = cc

pub if_true : {A : Type 0} (b : Bool) (x : Option A) (y : A) → (if b then x else None) ≡ Some y → (b ≡ true) × (x ≡ Some y)
if_true true x y e = (refl, e)
if_true false x y e = absurd (cc)

pub then_some : {A B : Type 0} (f : A → Option B) (o : Option A) (b : B) → option_and_then f o ≡ Some b → (a : A) × (o ≡ Some a) × (f a ≡ Some b)
then_some f None b e = absurd (cc)
then_some f (Some a) b e = (a, refl, e)

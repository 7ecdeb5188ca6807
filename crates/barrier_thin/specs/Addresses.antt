-- The new addresses of a unit's operations, and of its end.
use Rattle.std.specs.Prelude.{◌≡◌, ℕ, ◌+◌, Bool, true, false, List, [], ◌∷◌, refl}

-- one more, where an operation stays
abbrev pub counted : Bool → ℕ → ℕ
counted true n = n + 1
counted false n = n

-- where n operations that stay stand before them
abbrev pub addresses_from : ℕ → List Bool → List ℕ
addresses_from n [] = n ∷ []
addresses_from n (k ∷ ks) = n ∷ addresses_from (counted k n) ks

abbrev pub addresses : List Bool → List ℕ
addresses ks = addresses_from 0 ks

one_left_out : addresses (true ∷ false ∷ true ∷ []) ≡ 0 ∷ 1 ∷ 1 ∷ 2 ∷ []
one_left_out = refl

-- an element, where it stays
abbrev pub one_if : {A : Type 0} → Bool → A → List A
one_if true x = x ∷ []
one_if false x = []

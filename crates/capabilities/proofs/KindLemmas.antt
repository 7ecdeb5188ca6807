-- laws of the places of kinds
use Rattle.std.proofs.Common.{◌≡◌, ℕ, ◌≤◌, Bool, List, [], ◌∷◌, ◌++◌, length, drop, refl, sym, ap, ◌∙◌}
use Rattle.std.proofs.Math.ListN.{drop_of_length-le}
use Rattle.capabilities.specs.Kinds.{places}
use Rattle.capabilities.specs.declared.kinds.TagKind.{TagKind}

append_nil : (xs : List ℕ) → xs ++ [] ≡ xs
append_nil [] = refl
append_nil (x ∷ xs) = ap (λ r. x ∷ r) (append_nil xs)

-- none are left behind the end
pub places-all : (test : TagKind → Bool) (ks : List TagKind) (whole so_far : List ℕ) (i : ℕ) → length ks ≤ i → whole ≡ so_far ++ places test i (drop i ks) → so_far ≡ whole
places-all test ks whole so_far i le before = sym (before ∙ ap (λ r. so_far ++ places test i r) (drop_of_length-le ks le) ∙ append_nil so_far)

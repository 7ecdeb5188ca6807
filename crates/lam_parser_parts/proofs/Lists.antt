-- Lists of tags with their signs, as they grow.
use Rattle.std.proofs.Common.{◌≡◌, List, [], ◌∷◌, ◌++◌, refl, sym, ap, ◌∙◌}
use Rattle.lam_syntax.specs.declared.CapItem.{CapItem}
use Rattle.lam_syntax.specs.Tree.{CapTree, cap_tree, caps_tree}

one_more_cap : (xs : List CapItem) (x : CapItem) (os : List CapTree) → caps_tree xs ++ cap_tree x ∷ os ≡ caps_tree (xs ++ x ∷ []) ++ os
one_more_cap [] x os = refl
one_more_cap (y ∷ xs) x os = ap (λ (z : List CapTree). cap_tree y ∷ z) (one_more_cap xs x os)

pub more_caps : (xs ys : List CapItem) (x : CapItem) → ys ≡ xs ++ x ∷ [] → (os : List CapTree) → caps_tree xs ++ cap_tree x ∷ os ≡ caps_tree ys ++ os
more_caps xs ys x e os = one_more_cap xs x os ∙ ap (λ (z : List CapItem). caps_tree z ++ os) (sym e)

pub first_caps : (xs ys : List CapItem) (x : CapItem) → xs ≡ [] → ys ≡ xs ++ x ∷ [] → (os : List CapTree) → cap_tree x ∷ os ≡ caps_tree ys ++ os
first_caps xs ys x n e os = ap (λ (z : List CapItem). caps_tree z ++ cap_tree x ∷ os) (sym n) ∙ more_caps xs ys x e os

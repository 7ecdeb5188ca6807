-- The deepest copy of a local that is not tested yet.
use Rattle.std.proofs.Common.{◌≡◌, ℕ, ◌+◌, ◌<◌, ◌≤◌, List, ◌∷◌, ◌++◌, length, map, take, drop, get_or, sym, ap, ap₂, ◌∙◌, subst}
use Rattle.std.proofs.lemmas.List.{drop_more, drop_all, take-append-drop, map-append}
use Rattle.std.proofs.Math.Seq.{drop-append-add}

-- f changes nothing from the place n on
abbrev pub Stays : {A : Type 0} → (A → A) → List A → ℕ → Type 0
Stays f xs n = map f (drop n xs) ≡ drop n xs

module _ {A : Type 0} (f : A → A) where
  pub none_after : (xs : List A) (n : ℕ) → length xs ≤ n → Stays f xs n
  none_after xs n le = ap (map f) (drop_all n xs le) ∙ sym (drop_all n xs le)

  pub one_less : (xs : List A) (n m : ℕ) (d : A) → m ≡ n → n < length xs → f (get_or xs m d) ≡ get_or xs m d → Stays f xs (n + 1) → Stays f xs n
  one_less xs n m d e lt same rest =
      let opens : drop n xs ≡ get_or xs n d ∷ drop (n + 1) xs = drop_more xs n d lt in
      ap (map f) opens ∙ ap₂ (λ y ys. y ∷ ys) (subst (λ k. f (get_or xs k d) ≡ get_or xs k d) e same) rest ∙ sym opens

  pub in_back : (xs ys all : List A) (n : ℕ) → xs ++ ys ≡ all → Stays f ys n → Stays f all (length xs + n)
  in_back xs ys all n e h = subst (λ l. Stays f l (length xs + n)) e (ap (map f) (drop-append-add xs ys n) ∙ h ∙ sym (drop-append-add xs ys n))

  pub mapped_all : (old new : List A) (i n : ℕ) → i ≡ n → new ≡ map f (take i old) ++ drop i old → Stays f old n → new ≡ map f old
  mapped_all old new i n e h same =
      h ∙ ap (λ l. map f (take i old) ++ l) (sym (subst (Stays f old) (sym e) same)) ∙ sym (map-append f (take i old) (drop i old)) ∙ ap (map f) (take-append-drop i old)

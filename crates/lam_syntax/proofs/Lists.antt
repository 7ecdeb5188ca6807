-- Lists of children that are gone through one by one.
use Rattle.std.proofs.Common.{◌≡◌, ◌≢◌, ℕ, ◌+◌, ◌<◌, ◌↔◌, IsTrue, Bool, false, List, [], ◌∷◌, ◌++◌, length, get_or, drop, refl, sym, ap, ◌∙◌, append_assoc}
use Rattle.std.proofs.lemmas.List.{drop_more}
use Rattle.std.proofs.lemmas.Bool.{both_ways}

-- a view of lists, by a view of their items
pub record IsListView {X Y L : Type 0} (f : X → Y) (g : List X → L) : Type 0 where
  pub count : L → ℕ
  pub counts : (xs : List X) → count (g xs) ≡ length xs
  pub heads : (x y : X) (xs ys : List X) → g (x ∷ xs) ≡ g (y ∷ ys) → f x ≡ f y
  pub tails : (x y : X) (xs ys : List X) → g (x ∷ xs) ≡ g (y ∷ ys) → g xs ≡ g ys
  pub joins : (x y : X) (xs ys : List X) → f x ≡ f y → g xs ≡ g ys → g (x ∷ xs) ≡ g (y ∷ ys)

-- the lists are alike exactly where their rests are
pub record SameSoFar {X L : Type 0} (g : List X → L) (xs ys : List X) (i : ℕ) : Type 0 where
  pub to_rest : g xs ≡ g ys → g (drop i xs) ≡ g (drop i ys)
  pub from_rest : g (drop i xs) ≡ g (drop i ys) → g xs ≡ g ys

pub same_first : {X L : Type 0} (g : List X → L) (xs ys : List X) → SameSoFar g xs ys 0
same_first g xs ys = record { to_rest = λ e. e; from_rest = λ e. e }

pub same_never : {P : Type 0} → (P → ⊥) → IsTrue false ↔ P
same_never f = (λ t. absurd (both_ways false refl t), λ p. absurd (f p))

pub same_lengths : {X Y L : Type 0} {f : X → Y} {g : List X → L} → IsListView f g → (xs ys : List X) → length xs ≢ length ys → IsTrue false ↔ (g xs ≡ g ys)
same_lengths v xs ys n = same_never (λ e. n (sym (v.counts xs) ∙ ap v.count e ∙ v.counts ys))

-- a test of two views, moved to equal values
pub test_moved : {X Y : Type 0} (F : X → Y) {r : Bool} {a b c d : X} → a ≡ c → b ≡ d → (IsTrue r ↔ (F c ≡ F d)) → (IsTrue r ↔ (F a ≡ F b))
test_moved F p q t = (λ h. ap F p ∙ t.0 h ∙ sym (ap F q), λ e. t.1 (sym (ap F p) ∙ e ∙ ap F q))

-- the items that were copied and those that are left are the list
pub record CopiedSoFar {X L : Type 0} (g : List X → L) (xs out : List X) (i : ℕ) : Type 0 where
  pub whole : g (out ++ drop i xs) ≡ g xs

joins_after : {X Y L : Type 0} {f : X → Y} {g : List X → L} → IsListView f g → (out : List X) (x y : X) (xs : List X) → f y ≡ f x → g (out ++ y ∷ xs) ≡ g (out ++ x ∷ xs)
joins_after v [] x y xs e = v.joins y x xs xs e refl
joins_after v (o ∷ out) x y xs e = v.joins o o (out ++ y ∷ xs) (out ++ x ∷ xs) refl (joins_after v out x y xs e)

pub copied_more : {X Y L : Type 0} {f : X → Y} {g : List X → L} → IsListView f g → (xs out next : List X) (i : ℕ) (x y : X) → i < length xs → x ≡ get_or xs i x → f y ≡ f x → next ≡ out ++ y ∷ [] → CopiedSoFar g xs out i → CopiedSoFar g xs next (i + 1)
copied_more {X} {Y} {L} {f} {g} v xs out next i x y h p e n s =
    let a : drop i xs ≡ x ∷ drop (i + 1) xs = drop_more xs i x h ∙ ap (λ (z : X). z ∷ drop (i + 1) xs) (sym p) in
    record { whole = ap (λ (o : List X). g (o ++ drop (i + 1) xs)) n ∙ ap g (append_assoc out (y ∷ []) (drop (i + 1) xs)) ∙ joins_after v out x y (drop (i + 1) xs) e ∙ ap (λ (r : List X). g (out ++ r)) (sym a) ∙ s.whole }

-- two equations whose ends are equal
pub between : {X : Type 0} {a b c d : X} → a ≡ c → b ≡ d → c ≡ d → a ≡ b
between p q e = p ∙ e ∙ sym q

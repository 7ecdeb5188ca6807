-- Tokens that stand in a text from a place on.
use Rattle.std.proofs.Common.{◌≡◌, ℕ, suc, ◌+◌, Option, Some, None, List, [], ◌∷◌, ◌++◌, length, slice_get, refl, sym, ap, ◌∙◌, subst, arith}
use Rattle.lam_grammar_laws.proofs.Laws.{some_of}
use Rattle.lam_grammar_laws.proofs.Spelling.{HasAt}

pub has_both : {A : Type 0} (look : ℕ → Option A) (i k : ℕ) (xs ys : List A) → i + length xs ≡ k → HasAt look i xs → HasAt look k ys → HasAt look i (xs ++ ys)
has_both look i k [] ys e h g = let q : k ≡ i = omega arith in subst (λ m. HasAt look m ys) q g
has_both look i k (x ∷ xs) ys e h g = (h.0, has_both look (i + 1) k xs ys (omega arith) h.1 g)

-- what goes on from i as the tokens do
abbrev pub GoesOn : {A : Type 0} → (ℕ → Option A) → ℕ → List A → Type 0
GoesOn look i ts = (j : ℕ) → look (i + j) ≡ slice_get ts j

goes_on_more : {A : Type 0} (look : ℕ → Option A) (i : ℕ) (t : A) (ts : List A) → GoesOn look i (t ∷ ts) → GoesOn look (i + 1) ts
goes_on_more look i t ts f j = let q : i + 1 + j ≡ i + suc j = omega arith in ap look q ∙ f (suc j)

at_start : {A : Type 0} (look : ℕ → Option A) (i : ℕ) → look (i + 0) ≡ look i
at_start look i = let q : i + 0 ≡ i = omega arith in ap look q

pub has_all : {A : Type 0} (look : ℕ → Option A) (i : ℕ) (ts : List A) → GoesOn look i ts → HasAt look i ts
has_all look i [] f = tt
has_all look i (t ∷ ts) f = (sym (at_start look i) ∙ f 0, has_all look (i + 1) ts (goes_on_more look i t ts f))

-- What stands there to the end is the tokens.
pub same_text : {A : Type 0} (look : ℕ → Option A) (i : ℕ) (text ts : List A) → GoesOn look i ts → HasAt look i text → look (i + length text) ≡ None → text ≡ ts
same_text look i [] [] f h n = refl
same_text look i [] (t ∷ ts) f h n = let a = f 0 in cc
same_text look i (w ∷ text) [] f h n =
    let a : look i ≡ None = sym (at_start look i) ∙ f 0 in
    let b : look i ≡ Some w = h.0 in
    cc
same_text look i (w ∷ text) (t ∷ ts) f h n =
    let a : Some w ≡ Some t = sym h.0 ∙ sym (at_start look i) ∙ f 0 in
    let q : i + 1 + length text ≡ i + length (w ∷ text) = omega arith in
    let rest : text ≡ ts = same_text look (i + 1) text ts (goes_on_more look i t ts f) h.1 (ap look q ∙ n) in
    ap (λ (x : _). x ∷ text) (some_of a) ∙ ap (λ (x : List _). t ∷ x) rest

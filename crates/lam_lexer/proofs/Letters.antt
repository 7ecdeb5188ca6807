-- A reserved word is found among those with its first letter.
use Rattle.std.proofs.Common.{◌≡◌, ℕ, ◌==◌, if◌then◌else◌, Bool, true, false, List, [], ◌∷◌, Option, Some, None, slice_get, refl, sym, subst, arith}
use Rattle.lam_lexer.specs.declared.token.TokenKind.{TokenKind}
use Rattle.lam_lexer.specs.Lexed.{reserved}
use Rattle.lam_lexer.specs.Letters.{of_b_c, of_d_e_i_p, of_f_n, of_l_r_w, of_s_t, by_letter}

letter : (b k : ℕ) (bs : List ℕ) (f : List ℕ → Option TokenKind) (other : Option TokenKind) → f (k ∷ bs) ≡ reserved (k ∷ bs) → ((b == k) ≡ false → other ≡ reserved (b ∷ bs)) → (if b == k then f (b ∷ bs) else other) ≡ reserved (b ∷ bs)
letter b k bs f other e g = pick (b == k) refl
  where
    pick : (t : Bool) → (b == k) ≡ t → (if t then f (b ∷ bs) else other) ≡ reserved (b ∷ bs)
    pick true h = let q : b ≡ k = grind (arith, h) in subst (λ (x : ℕ). f (x ∷ bs) ≡ reserved (x ∷ bs)) (sym q) e
    pick false h = g h

found : (b : ℕ) (bs : List ℕ) → by_letter b (b ∷ bs) ≡ reserved (b ∷ bs)
found b bs =
    letter b 98 bs of_b_c _ refl (λ h0.
    letter b 99 bs of_b_c _ refl (λ h1.
    letter b 100 bs of_d_e_i_p _ refl (λ h2.
    letter b 101 bs of_d_e_i_p _ refl (λ h3.
    letter b 105 bs of_d_e_i_p _ refl (λ h4.
    letter b 112 bs of_d_e_i_p _ refl (λ h5.
    letter b 102 bs of_f_n _ refl (λ h6.
    letter b 110 bs of_f_n _ refl (λ h7.
    letter b 108 bs of_l_r_w _ refl (λ h8.
    letter b 114 bs of_l_r_w _ refl (λ h9.
    letter b 119 bs of_l_r_w _ refl (λ h10.
    letter b 115 bs of_s_t _ refl (λ h11.
    letter b 116 bs of_s_t _ refl (λ h12.
    rw (h0, h1, h2, h3, h4, h5, h6, h7, h8, h9, h10, h11, h12) refl)))))))))))))

pub found_by_letter : (name : List ℕ) (b : ℕ) → slice_get name 0 ≡ Some b → by_letter b name ≡ reserved name
found_by_letter [] b h = cc
found_by_letter (c ∷ cs) b h =
    let q : c ≡ b = cc in
    subst (λ (x : ℕ). by_letter x (c ∷ cs) ≡ reserved (c ∷ cs)) q (found c cs)

pub none_empty : (name : List ℕ) → slice_get name 0 ≡ None → None ≡ reserved name
none_empty [] h = refl
none_empty (c ∷ cs) h = cc

-- A text is read as a number exactly where it is written for it.
use Rattle.std.proofs.Common.{◌≡◌, ℕ, ℤ, pos, negsuc, zero, suc, ◌^◌, ◌<◌, true, false, cond, eqb, ltb, [], ◌∷◌, Option, Some, None, refl, sym, ap, ◌∙◌, arith, decimal, get_or}
use Rattle.std.specs.Fmt.{signed_decimal}
use Rattle.std.proofs.lemmas.Fmt.{decimal_digit, first_decimal}
use Rattle.std.proofs.lemmas.Bool.{eqb-true}
use Rattle.std.proofs.lemmas.Bool.Decides.{nat_tests}
use Rattle.decimal_text.specs.Decimal.{Text, number_of, positive, negative, int_of, fits}
use Rattle.decimal_text.specs.Exact.{NumbersAreExact, IntsAreExact}
use Rattle.decimal_text.proofs.DecimalLemmas.{decimal_text, decimal_is, number_is, number_back}

pub numbers_are_exact : NumbersAreExact
numbers_are_exact text n less = (λ is. ap number_of is ∙ number_is (decimal n) n (decimal_is n less), λ read. decimal_text text n (number_back text n read) less)

small : (n : ℕ) → ltb n (2 ^ 63) ≡ true → suc n < 2 ^ 64
small n e = let less : n < 2 ^ 63 = grind (arith, nat_tests) in omega arith

positive_back : (read : Option ℕ) (z : ℤ) → positive read ≡ Some z → (n : ℕ) × (read ≡ Some n) × (z ≡ pos n) × (ltb n (2 ^ 63) ≡ true)
positive_back None z e = absurd cc
positive_back (Some n) z e = elim (ltb n (2 ^ 63)) as (λ t. ltb n (2 ^ 63) ≡ t → cond t (Some (pos n)) None ≡ Some z → (m : ℕ) × (Some n ≡ Some m) × (z ≡ pos m) × (ltb m (2 ^ 63) ≡ true)) [
  | true ↦ λ was e. (n, refl, cc, was)
  | false ↦ λ was e. absurd cc
] refl e

negative_back : (read : Option ℕ) (z : ℤ) → negative read ≡ Some z → (n : ℕ) × (read ≡ Some (suc n)) × (z ≡ negsuc n) × (ltb n (2 ^ 63) ≡ true)
negative_back None z e = absurd cc
negative_back (Some zero) z e = absurd cc
negative_back (Some (suc n)) z e = elim (ltb n (2 ^ 63)) as (λ t. ltb n (2 ^ 63) ≡ t → cond t (Some (negsuc n)) None ≡ Some z → (m : ℕ) × (Some (suc n) ≡ Some (suc m)) × (z ≡ negsuc m) × (ltb m (2 ^ 63) ≡ true)) [
  | true ↦ λ was e. (n, refl, cc, was)
  | false ↦ λ was e. absurd cc
] refl e

int_back : (text : Text) (z : ℤ) → int_of text ≡ Some z → (fits z ≡ true) × (text ≡ signed_decimal z)
int_back [] z e = absurd cc
int_back (b ∷ bs) z e = elim (eqb b 45) as (λ t. eqb b 45 ≡ t → cond t (negative (number_of bs)) (positive (number_of (b ∷ bs))) ≡ Some z → (fits z ≡ true) × (b ∷ bs ≡ signed_decimal z)) [
  | true ↦ λ was e.
      let found = negative_back (number_of bs) z e in
      let minus : b ≡ 45 = eqb-true b 45 was in
      let text : bs ≡ decimal (suc found.0) = decimal_text bs (suc found.0) (number_back bs (suc found.0) found.1) (small found.0 found.3) in
      (ap fits found.2 ∙ found.3, (λ i. minus i ∷ text i) ∙ ap signed_decimal (sym found.2))
  | false ↦ λ was e.
      let found = positive_back (number_of (b ∷ bs)) z e in
      let text : b ∷ bs ≡ decimal found.0 = decimal_text (b ∷ bs) found.0 (number_back (b ∷ bs) found.0 found.1) (let more = small found.0 found.3 in omega arith) in
      (ap fits found.2 ∙ found.3, text ∙ ap signed_decimal (sym found.2))
] refl e

-- the first digit of a number is no minus
no_minus : (n : ℕ) (b : ℕ) (bs : Text) → n < 2 ^ 64 → decimal n ≡ b ∷ bs → eqb b 45 ≡ false
no_minus zero b bs less e = let zero_is : 48 ∷ [] ≡ b ∷ bs = sym (decimal_digit 0 (omega arith)) ∙ e in let first : 48 ≡ b = ap (λ ds. get_or ds 0 0) zero_is in grind (arith, nat_tests)
no_minus (suc n) b bs less e = let more : 48 < get_or (decimal (suc n)) 0 0 = first_decimal (suc n) (omega arith) less in let first : get_or (decimal (suc n)) 0 0 ≡ b = ap (λ ds. get_or ds 0 0) e in clash (get_or (decimal (suc n)) 0 0) b more first
  where
    clash : (d b : ℕ) → 48 < d → d ≡ b → eqb b 45 ≡ false
    clash d b more e = grind (arith, nat_tests)

positive_read : (n : ℕ) (bs : Text) → decimal n ≡ bs → number_of bs ≡ Some n → ltb n (2 ^ 63) ≡ true → int_of bs ≡ Some (pos n)
positive_read n [] e read less = absurd cc
positive_read n (b ∷ bs) e read less = rw (no_minus n b bs (let more = small n less in omega arith) e) (ap positive read ∙ rw less refl)

int_read : (z : ℤ) → fits z ≡ true → int_of (signed_decimal z) ≡ Some z
int_read (pos n) e = positive_read n (decimal n) refl (number_is (decimal n) n (decimal_is n (let more = small n e in omega arith))) e
int_read (negsuc n) e = ap negative (number_is (decimal (suc n)) (suc n) (decimal_is (suc n) (small n e))) ∙ rw e refl

pub ints_are_exact : IntsAreExact
ints_are_exact text z = (λ h. ap int_of h.1 ∙ int_read z h.0, int_back text z)

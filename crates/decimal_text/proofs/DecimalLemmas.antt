-- The decimal text of a number, and the number that it writes.
use Rattle.std.proofs.Common.{◌≡◌, ℕ, ◌^◌, ◌<◌, Bool, true, false, not, ◌&&◌, ◌||◌, cond, eqb, [], ◌∷◌, length, get_or, drop, Some, None, decimal, refl, sym, ap, ◌∙◌, arith, zero, suc}
use Rattle.std.specs.List.{list_all}
use Rattle.std.specs.Char.{digit_value}
use Rattle.std.specs.Str.Parse.{IsNumeral, AllDigits, digits_value}
use Rattle.std.proofs.lemmas.Str.Parse.{IsNumeralModel, numerals_by_value, tells_digits}
use Rattle.std.proofs.lemmas.Fmt.{decimal-digits_value, decimal_is_IsNumeral, decimal_digit, first_decimal}
use Rattle.std.proofs.lemmas.Bool.{and_parts}
use Rattle.std.proofs.lemmas.Bool.Decides.{nat_tests}
use Rattle.std.proofs.lemmas.Option.{same_Some}
use Rattle.decimal_text.specs.Decimal.{Text, is_digit, is_nil, is_plain, IsDecimal, number_of}
use Rattle.decimal_text.proofs.DigitLemmas.{digit_small, all_small}

pub plain_digits : (bs : Text) → is_plain bs ≡ true → list_all is_digit bs ≡ true
plain_digits [] e = absurd cc
plain_digits (b ∷ bs) e =
    let one = and_parts (is_digit b) (list_all is_digit bs && (not (eqb b 48) || is_nil bs)) e in
    let two = and_parts (list_all is_digit bs) (not (eqb b 48) || is_nil bs) one.1 in
    rw (one.0, two.0) refl

plain_numeral : (bs : Text) → is_plain bs ≡ true → IsNumeral 10 bs
plain_numeral [] e = absurd cc
plain_numeral (b ∷ bs) e =
    let one = and_parts (is_digit b) _ e in
    let two = and_parts (list_all is_digit bs) _ one.1 in
    (omega arith, (digit_small b one.0, all_small bs two.0))

own : IsNumeralModel (AllDigits 10) (digits_value 10)
own = numerals_by_value (AllDigits 10) tells_digits

one_zero : (bs : Text) → is_plain bs ≡ true → get_or bs 0 0 ≡ 48 → length bs ≡ 1
one_zero [] e h = absurd cc
one_zero (b ∷ bs) e h =
    let last : (not (eqb b 48) || is_nil bs) ≡ true = (and_parts (list_all is_digit bs) _ (and_parts (is_digit b) _ e).1).1 in
    nil_one bs (let same : eqb b 48 ≡ true = grind (arith, nat_tests) in only (eqb b 48) (is_nil bs) same last)
  where
    only : (t n : Bool) → t ≡ true → (not t || n) ≡ true → n ≡ true
    only true n e h = h
    only false n e h = absurd cc

    nil_one : (bs : Text) → is_nil bs ≡ true → suc (length bs) ≡ 1
    nil_one [] e = refl
    nil_one (c ∷ cs) e = absurd cc

-- the decimal text of a number of 64 bits is std's
pub decimal_text : (bs : Text) (n : ℕ) → IsDecimal bs n → n < 2 ^ 64 → bs ≡ decimal n
decimal_text bs n h less =
    let num : IsNumeral 10 bs = plain_numeral bs h.plain in
    let small : digits_value 10 bs < 2 ^ 64 = rw h.value less in
    sym (decimal-digits_value own bs num.1 num.0 (one_zero bs h.plain) small) ∙ ap decimal h.value

digit_from : (c : ℕ) → digit_value c < 10 → is_digit c ≡ true
digit_from c less = grind (arith, nat_tests)

digits_from : (bs : Text) → AllDigits 10 bs → list_all is_digit bs ≡ true
digits_from [] all = refl
digits_from (b ∷ bs) all = rw (digit_from b all.0) (digits_from bs all.1)

plain_from : (bs : Text) → IsNumeral 10 bs → (eqb (get_or bs 0 0) 48 ≡ true → is_nil (drop 1 bs) ≡ true) → is_plain bs ≡ true
plain_from [] num h = absurd (omega (arith, num.0))
plain_from (b ∷ bs) num h = rw (digit_from b num.1.0, digits_from bs num.1.1) (tests (eqb b 48) (is_nil bs) h)
  where
    tests : (t n : Bool) → (t ≡ true → n ≡ true) → (not t || n) ≡ true
    tests true n h = h refl
    tests false n h = refl

plain_decimal : (n : ℕ) → n < 2 ^ 64 → is_plain (decimal n) ≡ true
plain_decimal zero less = ap is_plain (decimal_digit 0 (omega arith))
plain_decimal (suc n) less = plain_from (decimal (suc n)) (decimal_is_IsNumeral (suc n) less).0 (λ e. let more : 48 < get_or (decimal (suc n)) 0 0 = first_decimal (suc n) (omega arith) less in absurd (clash (get_or (decimal (suc n)) 0 0) more e))
  where
    clash : (b : ℕ) → 48 < b → eqb b 48 ≡ true → ⊥
    clash b more e = grind (arith, nat_tests)

pub decimal_is : (n : ℕ) → n < 2 ^ 64 → IsDecimal (decimal n) n
decimal_is n less = record { plain = plain_decimal n less; value = (decimal_is_IsNumeral n less).1 }

-- the number that is read is the one that the text writes, and the other way round
pub number_is : (text : Text) (n : ℕ) → IsDecimal text n → number_of text ≡ Some n
number_is text n h = rw h.plain (ap Some h.value)

pub number_back : (text : Text) (n : ℕ) → number_of text ≡ Some n → IsDecimal text n
number_back text n = elim (is_plain text) as (λ v. is_plain text ≡ v → cond v (Some (digits_value 10 text)) None ≡ Some n → IsDecimal text n) [
  | true ↦ λ was e. record { plain = was; value = same_Some _ _ e }
  | false ↦ λ was e. absurd cc
] refl

-- Digits, and the number that some first digits write.
use Rattle.std.proofs.Common.{◌≡◌, ℕ, ◌+◌, ◌-◌, ◌*◌, ◌^◌, ◌<◌, ◌≤◌, true, [], ◌∷◌, length, take, drop, get_or, refl, sym, ◌∙◌, arith, zero, suc}
use Rattle.std.specs.List.{list_all}
use Rattle.std.specs.Char.{digit_value}
use Rattle.std.specs.Str.Parse.{digits_value, digits_value_after, AllDigits}
use Rattle.std.proofs.lemmas.Int.Digits.{digits_value_more}
use Rattle.std.proofs.lemmas.Bool.{and_parts}
use Rattle.std.proofs.lemmas.Bool.Decides.{nat_tests}
use Rattle.decimal_text.specs.Decimal.{Text, is_digit}

pub digit_at : (bs : Text) (i : ℕ) → i < length bs → list_all is_digit bs ≡ true → is_digit (get_or bs i 0) ≡ true
digit_at [] i less all = absurd (omega arith)
digit_at (b ∷ bs) zero less all = (and_parts (is_digit b) (list_all is_digit bs) all).0
digit_at (b ∷ bs) (suc i) less all = digit_at bs i (omega arith) (and_parts (is_digit b) (list_all is_digit bs) all).1

pub digit_worth : (b : ℕ) → is_digit b ≡ true → digit_value b ≡ b - 48
digit_worth b e =
    let low : 48 ≤ b = grind (arith, nat_tests) in
    let high : b ≤ 57 = grind (arith, nat_tests) in
    grind (arith, nat_tests)

pub digit_small : (b : ℕ) → is_digit b ≡ true → digit_value b < 10
digit_small b e = let high : b ≤ 57 = grind (arith, nat_tests) in let worth : digit_value b ≡ b - 48 = digit_worth b e in omega arith

pub all_small : (bs : Text) → list_all is_digit bs ≡ true → AllDigits 10 bs
all_small [] e = tt
all_small (b ∷ bs) e = let both = and_parts (is_digit b) (list_all is_digit bs) e in (digit_small b both.0, all_small bs both.1)

-- the number with one digit more
pub one_more_digit : (bs : Text) (i v : ℕ) → i < length bs → list_all is_digit bs ≡ true → v ≡ digits_value 10 (take i bs) → v * 10 + (get_or bs i 0 - 48) ≡ digits_value 10 (take (i + 1) bs)
one_more_digit bs i v less all so_far =
    let worth : digit_value (get_or bs i 0) ≡ get_or bs i 0 - 48 = digit_worth (get_or bs i 0) (digit_at bs i less all) in
    (λ j. so_far j * 10 + sym worth j) ∙ sym (digits_value_more 10 bs i less)

after_grows : (n : ℕ) (bs : Text) → n ≤ digits_value_after 10 n bs
after_grows n [] = omega arith
after_grows n (b ∷ bs) = let rest : n * 10 + digit_value b ≤ digits_value_after 10 (n * 10 + digit_value b) bs = after_grows (n * 10 + digit_value b) bs in omega arith

after_front : (k n : ℕ) (bs : Text) → digits_value_after 10 (digits_value_after 10 n (take k bs)) (drop k bs) ≡ digits_value_after 10 n bs
after_front zero n bs = refl
after_front (suc k) n [] = refl
after_front (suc k) n (b ∷ bs) = after_front k (n * 10 + digit_value b) bs

-- what some first digits write is no more than what all of them do
pub front_less : (k : ℕ) (bs : Text) → digits_value 10 (take k bs) ≤ digits_value 10 bs
front_less k bs = let grows : digits_value 10 (take k bs) ≤ digits_value_after 10 (digits_value 10 (take k bs)) (drop k bs) = after_grows (digits_value 10 (take k bs)) (drop k bs) in let whole : digits_value_after 10 (digits_value 10 (take k bs)) (drop k bs) ≡ digits_value 10 bs = after_front k 0 bs in omega arith

-- the number of all digits is too large where that of some first ones is
pub front_large : (bs : Text) (i v : ℕ) → i < length bs → list_all is_digit bs ≡ true → v ≡ digits_value 10 (take i bs) → (v * 10 + (get_or bs i 0 - 48) < 2 ^ 64 → ⊥) → digits_value 10 bs < 2 ^ 64 → ⊥
front_large bs i v less all so_far large fits =
    let more : v * 10 + (get_or bs i 0 - 48) ≡ digits_value 10 (take (i + 1) bs) = one_more_digit bs i v less all so_far in
    let front : digits_value 10 (take (i + 1) bs) ≤ digits_value 10 bs = front_less (i + 1) bs in
    large (omega arith)

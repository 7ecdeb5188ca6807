-- Numbers of bytes in code: a number that is too great for code is the greatest one.
use Rattle.std.specs.Prelude.{ℕ, ◌+◌, List, [], ◌∷◌, min, cond, nat_lt}
use Rattle.json.specs.Print.{escape_letter}

abbrev pub greatest : ℕ
greatest = 18446744073709551615

abbrev pub capped : ℕ → ℕ
capped n = min n greatest

-- how many bytes a byte of a text takes between quotes: two with a short escape, six with a long one
abbrev pub byte_size : ℕ → ℕ
byte_size x = cond (nat_lt 0 (escape_letter x)) 2 (cond (nat_lt x 32) 6 1)

abbrev pub text_size : List ℕ → ℕ
text_size [] = 0
text_size (x ∷ xs) = byte_size x + text_size xs

-- What is read is what is written.
use Rattle.std.specs.Prelude.{◌≡◌, ◌↔◌, ℕ, ℤ, ◌^◌, ◌<◌, true, Some, decimal}
use Rattle.std.specs.Fmt.{signed_decimal}
use Rattle.decimal_text.specs.Decimal.{Text, number_of, int_of, fits}

-- a text is read as a number of 64 bits exactly where it is written for it
abbrev pub NumbersAreExact : Type 0
NumbersAreExact = (text : Text) (n : ℕ) → n < 2 ^ 64 → (text ≡ decimal n) ↔ (number_of text ≡ Some n)

-- and as a whole number of 64 bits
abbrev pub IntsAreExact : Type 0
IntsAreExact = (text : Text) (z : ℤ) → ((fits z ≡ true) × (text ≡ signed_decimal z)) ↔ (int_of text ≡ Some z)

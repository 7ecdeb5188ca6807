-- The number that a text writes in decimal: `0`, `7`, `4096`, and of whole numbers `-12`. No number is written by
-- `01`, `-0`, `+7` or nothing.
use Rattle.std.specs.Prelude.{◌≡◌, ℕ, zero, suc, ℤ, pos, negsuc, ◌^◌, Bool, true, false, not, ◌&&◌, ◌||◌, nat_eq, nat_lt, nat_le, if◌then◌else◌, List, [], ◌∷◌, Option, Some, None, codes, refl}
use Rattle.std.specs.List.{list_all}
use Rattle.std.specs.Str.Parse.{digits_value}

abbrev pub Text : Type 0
Text = List ℕ

abbrev pub is_digit : ℕ → Bool
is_digit b = nat_le 48 b && nat_le b 57

abbrev pub is_nil : Text → Bool
is_nil [] = true
is_nil (b ∷ bs) = false

-- digits without a leading zero, or one zero
abbrev pub is_plain : Text → Bool
is_plain [] = false
is_plain (b ∷ bs) = is_digit b && (list_all is_digit bs && (not (nat_eq b 48) || is_nil bs))

-- the text is the number in decimal, however many digits it has
pub record IsDecimal (text : Text) (n : ℕ) : Type 0 where
  pub plain : is_plain text ≡ true
  pub value : digits_value 10 text ≡ n

-- the number that a text writes
abbrev pub number_of : Text → Option ℕ
number_of text = if is_plain text then Some (digits_value 10 text) else None

-- a number as a whole one below 2^63, and the whole one from -2^63 that a minus before it makes; none of 0
abbrev pub positive : Option ℕ → Option ℤ
positive None = None
positive (Some n) = if nat_lt n (2 ^ 63) then Some (pos n) else None

abbrev pub negative : Option ℕ → Option ℤ
negative None = None
negative (Some zero) = None
negative (Some (suc n)) = if nat_lt n (2 ^ 63) then Some (negsuc n) else None

-- the whole number of 64 bits that a text writes
abbrev pub int_of : Text → Option ℤ
int_of [] = None
int_of (b ∷ bs) = if nat_eq b 45 then negative (number_of bs) else positive (number_of (b ∷ bs))

-- from -2^63 to 2^63 - 1
abbrev pub fits : ℤ → Bool
fits (pos n) = nat_lt n (2 ^ 63)
fits (negsuc n) = nat_lt n (2 ^ 63)

seventy : number_of (codes "70") ≡ Some 70
seventy = refl

no_digits : number_of [] ≡ None
no_digits = refl

minus_twelve : int_of (codes "-12") ≡ Some (negsuc 11)
minus_twelve = refl

leading_zero : int_of (codes "01") ≡ None
leading_zero = refl

minus_zero : int_of (codes "-0") ≡ None
minus_zero = refl

two_signs : int_of (codes "--1") ≡ None
two_signs = refl

least : int_of (codes "-9223372036854775808") ≡ Some (negsuc 9223372036854775807)
least = refl

past_the_greatest : int_of (codes "9223372036854775808") ≡ None
past_the_greatest = refl

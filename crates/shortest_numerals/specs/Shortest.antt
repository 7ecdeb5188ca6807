-- The length of the shortest numeral that is read as a float: of that with the fewest digits.
--
-- `1.5` is that of 3/2: neither `1` nor `2` is read as it. A numeral is laid out as in JSON texts: `120.0`, `1.5`, `0.001`,
-- `1.5e+30`, `1e-7`.
use Rattle.std.specs.Prelude.{◌≡◌, ◌≤◌, ◌<◌, ℕ, suc, ℤ, pos, negsuc, ◌+◌, ◌-◌, ◌*◌, ◌/◌, ◌%◌, ◌^◌, false, true, nat_lt, nat_le, nat_eq, if◌then◌else◌, List, length, codes, refl}
use Rattle.std.specs.Float.{Float, binary64, fin, ◌<ᶠ◌, ◌≤ᶠ◌}
use Rattle.std.specs.Float.Ieee.{round, neg}

-- 10 ^ exponent is 10 ^ up / 10 ^ down
abbrev pub up : ℤ → ℕ
up (pos e) = e
up (negsuc e) = 0

abbrev pub down : ℤ → ℕ
down (pos e) = 0
down (negsuc e) = suc e

-- the float nearest to digits * 10 ^ up / 10 ^ down
abbrev pub read_as : ℕ → ℕ → ℕ → Float
read_as digits ups downs = round binary64 false (digits * 10 ^ ups) (10 ^ downs)

-- ---- how long a numeral is

-- `e`, a sign, and an exponent below 1000
abbrev pub exponent_length : ℕ → ℕ
exponent_length e = 2 + (if nat_lt e 10 then 1 else (if nat_lt e 100 then 2 else 3))

-- digits, a point after the first where there are more, and an exponent
abbrev pub with_exponent : ℕ → ℕ → ℕ
with_exponent count e = count + (if nat_lt 1 count then 1 else 0) + exponent_length e

-- So many digits, of which the last stands for 10 ^ ups / 10 ^ downs. An exponent stands just where more than 16 digits would stand
-- before the point, or more than 4 zeros after it.
abbrev pub laid_out : ℕ → ℕ → ℕ → ℕ
laid_out count ups downs =
    if nat_lt downs count
    then (if nat_le (count + ups - downs) 16 then (if nat_eq downs 0 then count + ups + 2 else count + 1) else with_exponent count (count + ups - downs - 1))
    else (if nat_le (downs - count) 4 then downs + 2 else with_exponent count (downs - count + 1))

-- ---- the shortest numeral

-- The shortest numeral of a float above 0 has this length. Its digits are read as the float, the last of them is not 0, and
-- neither of the two numerals beside it that have one digit fewer is read as the float.
pub record IsShortest (x : Float) (long : ℕ) : Type 0 where
  pub digits : ℕ
  pub count : ℕ
  pub exponent : ℤ
  pub last : 0 < digits % 10
  pub from : 10 ^ count ≤ digits * 10
  pub below : digits < 10 ^ count
  pub reads : (read_as digits (up exponent) (down exponent) ≤ᶠ x) × (x ≤ᶠ read_as digits (up exponent) (down exponent))
  pub less : read_as (digits / 10 * 10) (up exponent) (down exponent) <ᶠ x
  pub more : x <ᶠ read_as (digits / 10 * 10 + 10) (up exponent) (down exponent)
  pub long_is : long ≡ laid_out count (up exponent) (down exponent)

-- the text has the length of the shortest numeral of a float, with its sign
pub data IsShortestText (x : Float) (text : List ℕ) : Type 0 where
  positive : IsShortest x (length text) → IsShortestText x text
  negative : (size : Float) (long : ℕ) → x ≡ neg size → IsShortest size long → length text ≡ suc long → IsShortestText x text
  nothing : x ≡ fin false 0 (pos 0) → text ≡ codes "0.0" → IsShortestText x text
  minus_nothing : x ≡ fin true 0 (pos 0) → text ≡ codes "-0.0" → IsShortestText x text

-- a float above 0 has one such length
abbrev pub LengthsAreOne : Type 0
LengthsAreOne = (x : Float) (long other : ℕ) → IsShortest x long → IsShortest x other → long ≡ other

-- all texts of a float's shortest numeral have one length
abbrev pub ShortestAreOne : Type 0
ShortestAreOne = (x : Float) (text other : List ℕ) → IsShortestText x text → IsShortestText x other → length text ≡ length other

-- ---- worked examples
whole : laid_out 2 1 0 ≡ length (codes "120.0")
whole = refl

with_point : laid_out 2 0 1 ≡ length (codes "1.5")
with_point = refl

small : laid_out 1 0 3 ≡ length (codes "0.001")
small = refl

large : laid_out 2 29 0 ≡ length (codes "1.5e+30")
large = refl

tiny : laid_out 1 0 324 ≡ length (codes "5e-324")
tiny = refl

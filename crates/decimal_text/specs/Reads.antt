-- What a reader of 64 bits answers.
use Rattle.std.specs.Prelude.{◌≡◌, ℕ, ◌^◌, ◌≤◌, Option, Some, None, Result, Ok, Err}
use Rattle.decimal_text.specs.declared.read.NumberFault.{NumberFault}
use Rattle.decimal_text.specs.declared.read.NumberFault.TheVariants.{NoNumber, TooLarge}

-- the number, or that there is none, or that it is too large
abbrev pub ReadsNumber : Result ℕ NumberFault → Option ℕ → Type 0
ReadsNumber (Ok n) read = read ≡ Some n
ReadsNumber (Err NoNumber) read = read ≡ None
ReadsNumber (Err TooLarge) read = (n : ℕ) × (read ≡ Some n) × (2 ^ 64 ≤ n)

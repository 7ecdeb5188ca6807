-- Numbers of 64 bits, as code has them.
use Rattle.std.specs.Prelude.{ℕ, ℤ, pos, negsuc, Option, Some, None, nat_lt, if◌then◌else◌}
use Rattle.lam_value.specs.declared.values.Value.TheVariants.{Int}
use Rattle.thread_core_state.specs.Fault.TheVariants.{Overflow}
use Rattle.thread_core_state.specs.Operators.{Pure, fine, faults}

abbrev pub number_if : Option ℤ → Pure
number_if (Some z) = fine (Int z)
number_if None = faults Overflow

-- the place within a length that a number is
abbrev pub place_in : ℤ → ℕ → Option ℕ
place_in (pos i) len = if nat_lt i len then Some i else None
place_in (negsuc i) len = None

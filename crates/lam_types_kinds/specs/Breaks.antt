-- Breaks of the typing rules.
use Rattle.std.specs.Prelude.{ℕ, if◌then◌else◌, Option, Some, None}
use Rattle.lam_types_kinds.specs.Verdicts as verdicts
use Rattle.lam_types_kinds.specs.Verdicts.{Fine, Stop}
use Rattle.lam_syntax.specs.Tree.{TypeTree}
use Rattle.lam_builtins.specs.Types.{ValueType, Given, a_value, a_null, nothing, given_type, Place, suits, wanted_type}
use Rattle.lam_types_kinds.specs.Written.{plain}

pub data Break : Type 0 where
  no_name : (at : ℕ) → Break
  twice : (at : ℕ) → Break
  arity : (at : ℕ) → Break
  no_field : (at : ℕ) → Break
  no_return : (at : ℕ) → Break
  too_many : (at : ℕ) → Break
  mismatch : (at : ℕ) (want got : Option TypeTree) → Break

-- the answer of a check: a value, or the first break
abbrev pub Verdict : Type 0 → Type 0
Verdict A = verdicts.Verdict Break A

abbrev pub plain_option : Option ValueType → Option TypeTree
plain_option None = None
plain_option (Some t) = Some (plain t)

abbrev pub mismatch_of : ℕ → Option ValueType → Option ValueType → Break
mismatch_of at want got = mismatch at (plain_option want) (plain_option got)

-- what is given stands at a place
abbrev pub fit : ℕ → Place → Given → Verdict Given
fit at p g = if suits p g then Fine g else Stop (mismatch_of at (wanted_type p) (given_type g))

-- the operands of `==` or `!=` do not compare: the right one is at fault, or the left one where it gives nothing
abbrev pub unequal : ℕ → ℕ → Given → Given → Break
unequal left right nothing h = mismatch_of left (given_type h) None
unequal left right (a_value t) h = mismatch_of right (Some t) (given_type h)
unequal left right a_null h = mismatch_of right None (given_type h)

-- Checks that stop at the first break.
use Rattle.std.specs.Prelude.{Option, Some, None}

-- the answer of a check: a value, or the first break, which is of the given kind
pub data Verdict (Kind A : Type 0) : Type 0 where
  Fine : (a : A) → Verdict Kind A
  Stop : (b : Kind) → Verdict Kind A

abbrev pub then_on : {Kind A B : Type 0} → Verdict Kind A → (A → Verdict Kind B) → Verdict Kind B
then_on (Fine a) next = next a
then_on (Stop b) next = Stop b

abbrev pub first_break : {Kind A : Type 0} → Verdict Kind A → Option Kind
first_break (Fine a) = None
first_break (Stop b) = Some b

use Rattle.std.proofs.Common.{◌∙◌, arith}
use Rattle.decimal_text.proofs.DigitLemmas.{one_more_digit, front_large}
use Rattle.decimal_text.proofs.read.value_of.Goals as goal

pub returns-in_err-value : goal.returns-in_err-value
returns-in_err-value c = rw c.from_residual.ensures (front_large c.args.digits.now c.loop-byte.byte-index c.loop-byte.value (omega arith) c.requires c.loop-byte.invariant.so_far c.in_err-value.ensures)

pub loop-byte-preserved : goal.loop-byte-preserved
loop-byte-preserved c = record {
  so_far = c.in_ok-value.ensures.1 ∙ one_more_digit c.args.digits.now c.loop-byte.byte-index c.loop-byte.value (omega arith) c.requires c.loop-byte.invariant.so_far;
  fits = omega (arith, c.in_ok-value.ensures.0, c.in_ok-value.ensures.1);
}

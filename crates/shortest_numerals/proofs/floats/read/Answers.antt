use Rattle.std.proofs.Common.{◌∙◌, ap, w64, to_z-of_z}
use Rattle.std.specs.Float.{binary64}
use Rattle.std.specs.Prelude.{false}
use Rattle.fast_float.specs.Rounding.{nearest_to_decimal}
use Rattle.shortest_numerals.proofs.Readings.{read_is}
use Rattle.shortest_numerals.proofs.floats.read.Goals as goal

pub returns : goal.returns
returns c = c.from_parts.ensures ∙ ap (nearest_to_decimal binary64 false c.args.digits) (to_z-of_z {w = w64} {z = c.args.exponent} c.ranges.exponent) ∙ read_is c.args.digits c.args.exponent

use Rattle.std.proofs.Common.{◌-◌, length}
use Rattle.lam_parser_parts.proofs.types.+typ.Given as goal

abbrev pub decreases-typ : goal.decreases-typ
decreases-typ l = length l.tokens.now - l.at

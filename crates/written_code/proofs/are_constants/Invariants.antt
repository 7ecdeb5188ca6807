use Rattle.std.proofs.Common.{take}
use Rattle.std.specs.List.{All}
use Rattle.lam_bytecode.specs.Codes.{IsConstant}
use Rattle.written_code.proofs.are_constants.Given as goal

abbrev pub invariant-loop-value : goal.invariant-loop-value
invariant-loop-value l = All IsConstant (take l.value-index l.values)

use Rattle.std.proofs.Common.{◌≡◌, map, take}
use Rattle.written_code.specs.Writing.{constant_of}
use Rattle.written_code.proofs.constants_of.Given as goal

abbrev pub invariant-loop-constant : goal.invariant-loop-constant
invariant-loop-constant l = l.values.items ≡ map constant_of (take l.constant-index l.written)

use Rattle.std.proofs.Common.{drop}
use Rattle.lam_bytecode.specs.Codes.{AreCounted, region_numbers}
use Rattle.written_code.proofs.are_counted.Given as goal

abbrev pub invariant-loop-at : goal.invariant-loop-at
invariant-loop-at l = AreCounted l.next (region_numbers (drop l.at l.units)) → AreCounted 0 (region_numbers l.units)

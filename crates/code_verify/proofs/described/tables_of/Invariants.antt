use Rattle.std.proofs.Common.{◌≡◌, map, take}
use Rattle.code_verify.specs.Tables.{table_of}
use Rattle.code_verify.proofs.described.tables_of.Given as goal

abbrev pub invariant-loop-n : goal.invariant-loop-n
invariant-loop-n l = l.tables.items ≡ map (table_of l.code) (take l.n l.units)

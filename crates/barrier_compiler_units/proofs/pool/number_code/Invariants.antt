use Rattle.std.proofs.Common.{map, take}
use Rattle.barrier_compiler_ops.specs.Views.{flat_view}
use Rattle.barrier_compiler_units.proofs.Numbers.{Numbers}
use Rattle.barrier_compiler_units.proofs.pool.number_code.Given as goal

abbrev pub invariant-loop-one : goal.invariant-loop-one
invariant-loop-one l = Numbers l.initial.pool l.pool (map flat_view (take l.one-index l.code)) l.ops.items

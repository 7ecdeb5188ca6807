use Rattle.std.proofs.Common.{refl}
use Rattle.barrier_compiler_units.proofs.Places.{kept_none}
use Rattle.barrier_compiler_units.proofs.pool.Pool.new.Goals as goal

pub invariant_of-result : goal.invariant_of-result
invariant_of-result c = kept_none c.new-2.result _ c.new-2.ensures.empty c.new.ensures

use Rattle.std.proofs.Common.{◌≡◌, ◌++◌, replicate}
use Rattle.lam_value.specs.declared.values.Value.TheVariants.{Nothing}
use Rattle.source_walk_parts.proofs.locals.more_nulls.Given as goal

abbrev pub invariant-loop-i : goal.invariant-loop-i
invariant-loop-i l = l.all ≡ l.initial.all ++ replicate l._i Nothing

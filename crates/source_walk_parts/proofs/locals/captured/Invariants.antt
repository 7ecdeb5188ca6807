use Rattle.std.proofs.Common.{◌≡◌, map, take}
use Rattle.std.specs.Prelude.{slice_get}
use Rattle.lam_meaning.specs.Trees.{value_or_null}
use Rattle.source_walk_parts.proofs.locals.captured.Given as goal

abbrev pub invariant-loop-slot : goal.invariant-loop-slot
invariant-loop-slot l = l.all ≡ map (λ slot. value_or_null (slice_get l.locals slot)) (take l.slot-index l.captures)

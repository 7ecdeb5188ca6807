use Rattle.std.proofs.Common.{◌<◌, ℕ, slice_get}
use Rattle.lam_value.specs.Alike.{AreAlike}
use Rattle.labelled_heap.proofs.heap.begin_alike.Given as goal

abbrev pub invariant-loop-at : goal.invariant-loop-at
invariant-loop-at g l = (n : ℕ) → n < l.at → AreAlike g.T.Same.IsSame (slice_get l.a n) (slice_get l.b n)

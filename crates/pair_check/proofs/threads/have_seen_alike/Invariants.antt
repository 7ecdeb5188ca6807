use Rattle.std.proofs.Common.{◌≡◌, ◌<◌, ℕ}
use Rattle.std.specs.Prelude.{slice_get}
use Rattle.pair_check.specs.Threads.{seen_in}
use Rattle.pair_check.proofs.threads.have_seen_alike.Given as goal

abbrev pub invariant-loop-at : goal.invariant-loop-at
invariant-loop-at l = (t : ℕ) → t < l.at → seen_in l.observer (slice_get l.a t) ≡ seen_in l.observer (slice_get l.b t)

use Rattle.std.proofs.Common.{◌≡◌, ◌<◌, ℕ}
use Rattle.std.specs.Prelude.{slice_get}
use Rattle.lam_machine_terms.specs.Worlds.{result_in}
use Rattle.pair_check.proofs.threads.each_ended_alike.Given as goal

abbrev pub invariant-loop-at : goal.invariant-loop-at
invariant-loop-at l = (t : ℕ) → t < l.at → result_in (slice_get l.a t) ≡ result_in (slice_get l.b t)

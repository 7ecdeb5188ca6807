use Rattle.std.proofs.Common.{◌≡◌, ◌++◌, take, drop, reverse}
use Rattle.thread_steps.specs.Next.{without}
use Rattle.thread_core_answers.proofs.plans.place_of.Given as goal

abbrev pub invariant-loop-place : goal.invariant-loop-place
invariant-loop-place l = without l.name (reverse l.taken) ≡ take l.place (reverse l.taken) ++ without l.name (drop l.place (reverse l.taken))

use Rattle.std.proofs.Common.{◌≡◌, ℕ, ◌+◌, Some, length}
use Rattle.guarded_code.specs.Changes.{tested_copy}
use Rattle.code_verify_tables.proofs.Deepest.{Stays}
use Rattle.code_verify_tables.proofs.current.untested_in.Given as goal

abbrev pub invariant-loop-i : goal.invariant-loop-i
invariant-loop-i l = (n : ℕ) → n + l.i ≡ length l.part → Stays (tested_copy l.access (Some l.local)) l.part n

use Rattle.std.proofs.Common.{◌≡◌, map, take, drop, ◌++◌, length}
use Rattle.guarded_code.specs.Changes.{forgotten}
use Rattle.code_verify_tables.proofs.transfer.forget_copies.Given as goal

abbrev pub invariant-loop-i : goal.invariant-loop-i
invariant-loop-i l = (length l.stack.items ≡ length l.initial.stack.items) × (l.stack.items ≡ map (forgotten l.local) (take l.i l.initial.stack.items) ++ drop l.i l.initial.stack.items)

use Rattle.std.proofs.Common.{◌≡◌, map, take, drop, ◌++◌, length}
use Rattle.guarded_code.specs.Changes.{tested_copy}
use Rattle.code_verify_tables.proofs.transfer.test_copies.Given as goal

abbrev pub invariant-loop-i : goal.invariant-loop-i
invariant-loop-i l = (length l.stack.items ≡ length l.initial.stack.items) × (l.stack.items ≡ map (tested_copy l.access l.copies) (take l.i l.initial.stack.items) ++ drop l.i l.initial.stack.items)

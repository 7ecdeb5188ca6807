use Rattle.std.proofs.Common.{◌≡◌, drop}
use Rattle.code_verify_tables.proofs.current.take_off.Given as goal

abbrev pub invariant-loop-i : goal.invariant-loop-i
invariant-loop-i l = l.stack.items ≡ drop l._i l.initial.stack.items

use Rattle.std.proofs.Common.{◌≡◌, length}
use Rattle.guarded_code.specs.Rounds.{Holds, after}
use Rattle.guarded_code.specs.Descriptions.{Description, meet, starts}
use Rattle.guarded_code.specs.Changes.{passes}
use Rattle.code_verify.proofs.rounds.describe_unit.Given as goal

abbrev pub invariant-loop-i : goal.invariant-loop-i
invariant-loop-i l = (length l.table.items ≡ length l.unit.ops) × (after Description meet (passes l.code l.unit.ops) l._i (length l.unit.ops) (starts l.unit) ≡ Holds l.table.items)

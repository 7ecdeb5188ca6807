use Rattle.std.proofs.Common.{◌≡◌, false, length, ◌-◌}
use Rattle.guarded_code.specs.Rounds.{round, sweep}
use Rattle.guarded_code.specs.Descriptions.{Description, meet}
use Rattle.guarded_code.specs.Changes.{passes}
use Rattle.code_verify.proofs.rounds.round.Given as goal

abbrev pub invariant-loop-at : goal.invariant-loop-at
invariant-loop-at l = (length l.table.items ≡ length l.ops) × (round Description meet (passes l.code l.ops) l.initial.table.items ≡ sweep Description meet (passes l.code l.ops) (length l.ops - l.at) l.at l.table.items) × (l.changed ≡ false → l.table.items ≡ l.initial.table.items)

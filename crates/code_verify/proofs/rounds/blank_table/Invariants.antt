use Rattle.std.proofs.Common.{◌≡◌}
use Rattle.guarded_code.specs.Rounds.{blank}
use Rattle.guarded_code.specs.Descriptions.{Description}
use Rattle.code_verify.proofs.rounds.blank_table.Given as goal

abbrev pub invariant-loop-i : goal.invariant-loop-i
invariant-loop-i l = l.table.items ≡ blank Description l._i

use Rattle.std.proofs.Common.{◌≡◌}
use Rattle.guarded_code.specs.Descriptions.{entry_locals}
use Rattle.code_verify.proofs.locals.entry_locals.Given as goal

abbrev pub invariant-loop-number : goal.invariant-loop-number
invariant-loop-number l = l.locals.items ≡ entry_locals l.given l.number

use Rattle.std.proofs.Common.{◌≡◌, ◌++◌, drop, string_bytes}
use Rattle.audit_log.specs.Log.{noted_lines}
use Rattle.audit_log.proofs.audit.audit_text.Given as goal

abbrev pub invariant-loop-one : goal.invariant-loop-one
invariant-loop-one l = string_bytes l.text ++ noted_lines l.names l.public (drop l.one-index l.noted) ≡ noted_lines l.names l.public l.noted

use Rattle.std.proofs.Common.{◌≡◌, ◌++◌, drop, string_bytes}
use Rattle.audit_log.specs.Log.{seen_lines}
use Rattle.audit_log.proofs.view.view_text.Given as goal

abbrev pub invariant-loop-one : goal.invariant-loop-one
invariant-loop-one l = string_bytes l.text ++ seen_lines l.names (drop l.one-index l.seen) ≡ seen_lines l.names l.seen
